-- The next stream that a host end serves, after one host end more was looked at; and whether all host
-- ends that were looked at are those that the store needs.
use Rattle.std.proofs.Common.{◌≡◌, ◌⊎◌, ℕ, ◌+◌, ◌<◌, ◌≤◌, ◌↔◌, Bool, true, false, cond, length, min, Option, Some, None, refl, sym, subst, ◌∙◌, inl, inr, ⊎_elim, arith}
use Rattle.std.specs.Prelude.{nat_le, IsTrue}
use Rattle.std.proofs.lemmas.Bool.{cases_lt, true≢false}
use Rattle.std.proofs.lemmas.Bool.Decides.{nat_tests}
use Rattle.strm_codes.specs.Sameness.{same_payload}
use Rattle.strm_codes.proofs.SamenessLemmas.{Decides-same_payload}
use Rattle.strm_buffers.specs.Tells.{Tells, told_by, told_by_reader}
use Rattle.strm_machine.specs.State.{State, host_limit}
use Rattle.strm_machine.specs.Hosting.{duty_of}
use Rattle.strm_machine.specs.declared.streams.Duty.{Duty}
use Rattle.strm_machine.specs.declared.streams.Duty.TheVariants.{Unused, Serves, Ended}
use Rattle.strm_machine.specs.declared.streams.Side.{Side}
use Rattle.strm_machine.specs.declared.streams.Side.TheVariants.{Writing, Reading}
use Rattle.strm_machine.specs.declared.streams.Stream.{Stream}
use Rattle.strm_machine.specs.Tests.{same_kind}
use Rattle.strm_machine.proofs.RefusalLemmas.{same_kind_is}
use Rattle.strm_host_machine.specs.Does.{FitsWriter, FitsReader, Fits}
use Rattle.strm_transmit.specs.Hosted.{FitsAt}
use Rattle.strm_transmit.specs.Inside.{AreServed}
use Rattle.strm_transmit.specs.Turning.{least_of, next_for_duty, IsNextAmong, NextAmong, NextServed}
use Rattle.strm_transmit.proofs.ServedLemmas.{same_stream, not_unused, ended_no, duty_known}

-- ## The next stream that is served

-- a stream is not less than the least one, if there is one
abbrev IsBehind : Option ℕ → ℕ → Type 0
IsBehind None k = ⊥
IsBehind (Some t) k = t ≤ k

-- which host ends were looked at
abbrev pub Looked : Type 1
Looked = Side → ℕ → Type 0

-- no host end is looked at any more, but the one of this number
abbrev pub LooksAt : Looked → Looked → Side → ℕ → Type 0
LooksAt looked more side m = (k : Side) (n : ℕ) → more k n → looked k n ⊎ ((k ≡ side) × (n ≡ m))

module _ (state : State) (from : ℕ) (looked more : Looked) (side : Side) (m : ℕ) (still : (k : Side) (n : ℕ) → looked k n → more k n) (h : LooksAt looked more side m) where
  abbrev duty : Duty
  duty = duty_of side state m

  -- whichever serves a stream is the last, or was looked at before
  by_last : (P : Type 0) (k : Side) (n t : ℕ) → more k n → duty_of k state n ≡ Serves t → (duty ≡ Serves t → P) → (looked k n → P) → P
  by_last P k n t l e f g =
      elim (h k n l) [
        | inl before ↦ g before
        | inr it ↦ f (rw it.0 at (rw it.1 at e))
      ]

  kept_on : (o : Option ℕ) → NextAmong state looked from o → ((t : ℕ) → duty ≡ Serves t → from ≤ t → IsBehind o t) → NextAmong state more from o
  kept_on None h f = λ k n t l e b. by_last ⊥ k n t l e (λ d. f t d b) (λ x. h k n t x e b)
  kept_on (Some s) h f = record {
    behind = h.behind;
    side = h.side;
    number = h.number;
    serves = h.serves;
    least = λ k n t l e b. by_last (s ≤ t) k n t l e (λ d. f t d b) (λ x. h.least k n t x e b);
  }

  is_last : (s : ℕ) → duty ≡ Serves s → from ≤ s → ((k : Side) (n t : ℕ) → looked k n → duty_of k state n ≡ Serves t → from ≤ t → s ≤ t) → IsNextAmong state more from s
  is_last s e b f = record {
    behind = b;
    side = side;
    number = m;
    serves = e;
    least = λ k n t l d c. by_last (s ≤ t) k n t l d (λ q. omega (arith, same_stream s t duty e q)) (λ x. f k n t x d c);
  }

  lesser : (s : ℕ) (o : Option ℕ) → duty ≡ Serves s → from ≤ s → NextAmong state looked from o → NextAmong state more from (least_of s o)
  lesser s None e b h = is_last s e b (λ k n t x d c. absurd (h k n t x d c))
  lesser s (Some t) e b h = by_test (nat_le t s) refl
    where
      by_test : (b : Bool) → nat_le t s ≡ b → NextAmong state more from (cond b (Some t) (Some s))
      by_test true q =
          let few : t ≤ s = grind (arith, nat_tests) in
          kept_on (Some t) h (λ u d a. omega (arith, few, same_stream s u duty e d))
      by_test false q =
          let few : s ≤ t = grind (arith, nat_tests) in
          is_last s e b (λ k n u x d a. omega (arith, few, h.least k n u x d a))

  next_more : (o : Option ℕ) → NextAmong state looked from o → NextAmong state more from (next_for_duty duty from o)
  next_more o h = by_duty duty refl
    where
      by_test : (s : ℕ) (b : Bool) → duty ≡ Serves s → nat_le from s ≡ b → NextAmong state more from (cond b (least_of s o) o)
      by_test s true e q = lesser s o e (grind (arith, nat_tests)) h
      by_test s false e q =
          let few : s < from = grind (arith, nat_tests) in
          kept_on o h (λ t d a. absurd (past s t few (same_stream s t duty e d) a))
        where
          past : (a b : ℕ) → a < from → a ≡ b → from ≤ b → ⊥
          past a b l e f = omega (arith, l, e, f)

      by_duty : (d : Duty) → duty ≡ d → NextAmong state more from (next_for_duty d from o)
      by_duty Unused e = kept_on o h (λ t d a. absurd (not_unused duty t e d))
      by_duty Ended e = kept_on o h (λ t d a. absurd (ended_no duty t e d))
      by_duty (Serves s) e = by_test s (nat_le from s) e refl

-- the host ends of the first numbers
abbrev pub below : ℕ → Looked
below k side n = n < k

pub next_none : (state : State) (from : ℕ) → NextAmong state (below 0) from None
next_none state from = λ k n t l d b. absurd (omega (arith, l))

-- and the host writer of the next one
abbrev below_and_writer : ℕ → Looked
below_and_writer k Writing n = n < k + 1
below_and_writer k Reading n = n < k

module _ (state : State) (from k : ℕ) where
  below_more : (n : ℕ) → n < k + 1 → (n < k) ⊎ (n ≡ k)
  below_more n l = ⊎_elim (λ a. inl a) (λ b. inr (omega (arith, l, b))) (cases_lt n k)

  writer_still : (side : Side) (n : ℕ) → below k side n → below_and_writer k side n
  writer_still Writing n l = omega (arith, l)
  writer_still Reading n l = l

  writer_more : LooksAt (below k) (below_and_writer k) Writing k
  writer_more Writing n l = ⊎_elim (λ a. inl a) (λ e. inr (refl, e)) (below_more n l)
  writer_more Reading n l = inl l

  reader_still : (side : Side) (n : ℕ) → below_and_writer k side n → below (k + 1) side n
  reader_still Writing n l = l
  reader_still Reading n l = omega (arith, l)

  reader_more : LooksAt (below_and_writer k) (below (k + 1)) Reading k
  reader_more Writing n l = inl l
  reader_more Reading n l = ⊎_elim (λ a. inl a) (λ e. inr (refl, e)) (below_more n l)

  -- both host ends of one number more
  pub next_both : (o : Option ℕ) → NextAmong state (below k) from o → NextAmong state (below (k + 1)) from (next_for_duty (duty_of Reading state k) from (next_for_duty (duty_of Writing state k) from o))
  next_both o h =
      next_more state from (below_and_writer k) (below (k + 1)) Reading k reader_still reader_more (next_for_duty (duty_of Writing state k) from o)
      (next_more state from (below k) (below_and_writer k) Writing k writer_still writer_more o h)

-- and all of them, where those that there are fit
module _ (state : State) (tells : Tells) (served : AreServed state.producers state.consumers state.streams) (fits : Fits state tells) where
  there : (side : Side) (n s most : ℕ) → length tells.writers ≤ most → length tells.readers ≤ most → duty_of side state n ≡ Serves s → n < most
  there Writing n s most w r e = omega (arith, w, (fits.writers n s e).there)
  there Reading n s most w r e = omega (arith, r, (fits.readers n s e).there)

  -- one that serves a stream is among the first so many
  serving_below : (side : Side) (n s most k : ℕ) → length tells.writers ≤ most → length tells.readers ≤ most → min most host_limit ≤ k → duty_of side state n ≡ Serves s → n < k
  serving_below side n s most k w r l e =
      let known = duty_known side state.producers state.consumers state.streams n s served e in
      omega (arith, l, known, there side n s most w r e)

  pub next_of_all : (from most k : ℕ) (o : Option ℕ) → length tells.writers ≤ most → length tells.readers ≤ most → min most host_limit ≤ k → NextAmong state (below k) from o → NextServed state from o
  next_of_all from most k None w r l n = λ side m t x e b. n side m t (serving_below side m t most k w r l e) e b
  next_of_all from most k (Some s) w r l n = record {
    behind = n.behind;
    side = n.side;
    number = n.number;
    serves = n.serves;
    least = λ side m t x e b. n.least side m t (serving_below side m t most k w r l e) e b;
  }

-- where the first number itself is served, the others need no look
pub next_first : (state : State) (from k : ℕ) (o : Option ℕ) → o ≡ Some from → NextAmong state (below k) from o → NextServed state from o
next_first state from k None e n = cc
next_first state from k (Some t) e n =
    let same : t ≡ from = cc in
    record {
      behind = n.behind;
      side = n.side;
      number = n.number;
      serves = n.serves;
      least = λ side m u x d b. omega (arith, same, b);
    }

-- ## The host ends that the store needs

-- one that is there and of the stream's kind fits where its payload does
pub writes_by : (stream : Stream) (tells : Tells) (n : ℕ) (is : Bool) → n < length tells.writers → true ≡ same_kind (told_by tells n).kind stream.kind → is ≡ same_payload (told_by tells n).payload stream.payload → (IsTrue is ↔ FitsWriter stream tells n)
writes_by stream tells n is l s e =
    let decides = Decides-same_payload (told_by tells n).payload stream.payload in (
      λ t. record { there = l; kind = same_kind_is (told_by tells n).kind stream.kind (sym s); payload = decides.0 (sym e ∙ t) },
      λ fits. e ∙ decides.1 fits.payload,
    )

pub reads_by : (stream : Stream) (tells : Tells) (r : ℕ) (is : Bool) → r < length tells.readers → true ≡ same_kind (told_by_reader tells r).kind stream.kind → is ≡ same_payload (told_by_reader tells r).payload stream.payload → (IsTrue is ↔ FitsReader stream tells r)
reads_by stream tells r is l s e =
    let decides = Decides-same_payload (told_by_reader tells r).payload stream.payload in (
      λ t. record { there = l; kind = same_kind_is (told_by_reader tells r).kind stream.kind (sym s); payload = decides.0 (sym e ∙ t) },
      λ fits. e ∙ decides.1 fits.payload,
    )

abbrev pub FitBelow : State → Tells → ℕ → Type 0
FitBelow state tells k = (side : Side) (n : ℕ) → n < k → FitsAt side state tells n

pub fit_none : (state : State) (tells : Tells) → FitBelow state tells 0
fit_none state tells = λ side n l. absurd (omega (arith, l))

pub fit_more : (state : State) (tells : Tells) (k : ℕ) → FitBelow state tells k → FitsAt Writing state tells k → FitsAt Reading state tells k → FitBelow state tells (k + 1)
fit_more state tells k f w r side n l =
    ⊎_elim (f side n) (λ g. let same : k ≡ n = omega (arith, l, g) in subst (FitsAt side state tells) same (both side)) (cases_lt n k)
  where
    both : (side : Side) → FitsAt side state tells k
    both Writing = w
    both Reading = r

pub fits_not : (side : Side) (state : State) (tells : Tells) (n : ℕ) → (IsTrue false ↔ FitsAt side state tells n) → (IsTrue false ↔ Fits state tells)
fits_not Writing state tells n k = (λ e. absurd (true≢false (sym e)), λ fits. k.1 (fits.writers n))
fits_not Reading state tells n k = (λ e. absurd (true≢false (sym e)), λ fits. k.1 (fits.readers n))

pub fits_all : (state : State) (tells : Tells) (k : ℕ) → AreServed state.producers state.consumers state.streams → host_limit ≤ k → FitBelow state tells k → (IsTrue true ↔ Fits state tells)
fits_all state tells k h l f = (
  λ _. record {
    writers = λ n s e. f Writing n (omega (arith, l, duty_known Writing state.producers state.consumers state.streams n s h e)) s e;
    readers = λ r s e. f Reading r (omega (arith, l, duty_known Reading state.producers state.consumers state.streams r s h e)) s e;
  },
  λ _. refl,
)
