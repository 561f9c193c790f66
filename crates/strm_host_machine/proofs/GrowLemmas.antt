-- One host writer that told more, among the others: what all of them tell then.
use Rattle.std.proofs.Common.{◌≡◌, ℕ, zero, suc, ◌<◌, ◌≤◌, List, [], ◌∷◌, ◌++◌, length, drop, refl, sym, ap, subst, ◌∙◌, append-nil, arith}
use Rattle.std.proofs.Math.Nat.{le_trans}
use Rattle.std.specs.Prelude.{slice_set, slice_index_or, map, All}
use Rattle.std.proofs.lemmas.List.Elements.{All-append, All-drop, All-nil}
use Rattle.std.proofs.lemmas.Bool.Decides.{nat_tests}
use Rattle.std.proofs.lemmas.List.{drop_all}
use Rattle.strm_buffers.specs.Listing.{Item}
use Rattle.strm_buffers.specs.Said.{WriterSaid}
use Rattle.strm_codes.specs.Counters.{Rose}
use Rattle.strm_buffers.specs.Tells.{WriterTells, Tells, no_tells, told_by, with_told, PollsWriter, KeepsWriter, ClosesWriter, RisesOnFailed}
use Rattle.strm_buffers.specs.declared.answers.Answer.{Answer}
use Rattle.strm_buffers.specs.declared.answers.Answer.TheVariants.{Failed}
use Rattle.strm_machine.specs.State.{State}
use Rattle.strm_machine.specs.declared.streams.HostEnd.{HostEnd}
use Rattle.strm_machine.specs.declared.streams.HostEnd.TheVariants as ends
use Rattle.strm_host_machine.specs.World.{World}
use Rattle.strm_host_machine.specs.Outcomes.{Outcome}
use Rattle.strm_host_machine.specs.Does.{Logs, LogBegins, AllBegin, first_log, Extends, world_of, Answered, Gives, faults_of, Caused, SaidFits, IsSuppliedSince, AreSuppliedSince, Does}
use Rattle.strm_host_machine.proofs.WorldLemmas.{begins-before}

-- a writer that told more: records more of its items, and no fault less
pub record Grows (old new : WriterTells) : Type 0 where
  pub more : List WriterSaid
  pub said : new.said ≡ old.said ++ more
  pub supplied : (first : WriterTells) → IsSuppliedSince first old → IsSuppliedSince first new
  pub faults : old.faults ≤ new.faults

-- THE CALLS OF A WRITER

all_one : {A : Type 0} (P : A → Type 0) (x : A) → P x → All P (x ∷ [])
all_one P x p zero d l = p
all_one P x p (suc k) d l = absurd (omega (arith, l))

nothing_more : {A : Type 0} (xs : List A) → xs ≡ xs ++ []
nothing_more xs = sym (append-nil xs)

-- records that are the same, of the same payload
same_supplied : (old new : WriterTells) → new.payload ≡ old.payload → new.said ≡ old.said → (first : WriterTells) → IsSuppliedSince first old → IsSuppliedSince first new
same_supplied old new e f first s =
    let n = length first.said in
    subst (λ p. All (SaidFits p) (drop n new.said)) (sym e) (subst (λ xs. All (SaidFits old.payload) (drop n xs)) (sym f) s)

-- more behind the others
all_behind : {A : Type 0} (P : A → Type 0) (k : ℕ) (xs more : List A) → All P (drop k xs) → All P more → All P (drop k (xs ++ more))
all_behind P zero xs more a b = All-append P xs more a b
all_behind P (suc k) [] more a b = All-drop P (suc k) more b
all_behind P (suc k) (x ∷ xs) more a b = all_behind P k xs more a b

pub grows-same : (old new : WriterTells) → new.payload ≡ old.payload → new.said ≡ old.said → old.faults ≤ new.faults → Grows old new
grows-same old new e f g = record {
  more = [];
  said = f ∙ nothing_more old.said;
  supplied = same_supplied old new e f;
  faults = g;
}

rose_at_most : (a b : ℕ) → Rose a b → a ≤ b
rose_at_most a b r = grind (arith, nat_tests)

rises_at_most : (answer : Answer) (a b : ℕ) → RisesOnFailed answer a b → a ≤ b
rises_at_most Failed a b r = rose_at_most a b r
rises_at_most _ a b r = r

pub grows-polled : (old new : WriterTells) (said : WriterSaid) (marked : List Item) → PollsWriter old new said marked → Grows old new
grows-polled old new said marked p = record {
  more = said ∷ [];
  said = p.said_more;
  supplied = λ first s.
      let n = length first.said in
      subst (λ q. All (SaidFits q) (drop n new.said)) (sym p.payload)
      (subst (λ xs. All (SaidFits old.payload) (drop n xs)) (sym p.said_more) (all_behind (SaidFits old.payload) n old.said (said ∷ []) s (all_one (SaidFits old.payload) said p.fits)));
  faults = rises_at_most said.answer old.faults new.faults p.faults;
}

pub grows-kept : (old new : WriterTells) → KeepsWriter old new → Grows old new
grows-kept old new k = grows-same old new k.payload k.said k.faults

pub grows-closed : (old new : WriterTells) → ClosesWriter old new → Grows old new
grows-closed old new c =
    let faults : new.faults ≡ old.faults = ap (λ (w : WriterTells). w.faults) c.same in
    grows-same old new (ap (λ (w : WriterTells). w.payload) c.same) (ap (λ (w : WriterTells). w.said) c.same) (omega (arith, faults))

-- AMONG THE OTHERS

pub told_by-told : (ws : List WriterTells) (n : ℕ) (w d : WriterTells) → n < length ws → slice_index_or (slice_set ws n w) n d ≡ w
told_by-told [] n w d l = absurd (omega (arith, l))
told_by-told (x ∷ ws) zero w d l = refl
told_by-told (x ∷ ws) (suc n) w d l = told_by-told ws n w d (omega (arith, l))

begin-before : (ws : List WriterTells) (logs : List (List WriterSaid)) (n : ℕ) (w : WriterTells) → Grows (slice_index_or ws n no_tells) w
    → AllBegin (map (λ v. v.said) (slice_set ws n w)) logs → AllBegin (map (λ v. v.said) ws) logs
begin-before [] logs n w g b = b
begin-before (x ∷ ws) [] zero w g b = b
begin-before (x ∷ ws) [] (suc n) w g b = b
begin-before (x ∷ ws) (log ∷ logs) zero w g b =
    (begins-before x.said g.more log (subst (λ xs. LogBegins xs log) g.said b.0), b.1)
begin-before (x ∷ ws) (log ∷ logs) (suc n) w g b = (b.0, begin-before ws logs n w g b.1)

-- the log of the one that told more begins with what it said
pub begins-told : (ws : List WriterTells) (logs : List (List WriterSaid)) (n : ℕ) (w : WriterTells) → n < length ws
    → AllBegin (map (λ v. v.said) (slice_set ws n w)) logs → LogBegins w.said (first_log (drop n logs))
begins-told [] logs n w l b = absurd (omega (arith, l))
begins-told (x ∷ ws) [] zero w l b = absurd b
begins-told (x ∷ ws) [] (suc n) w l b = absurd b
begins-told (x ∷ ws) (log ∷ logs) zero w l b = b.0
begins-told (x ∷ ws) (log ∷ logs) (suc n) w l b = begins-told ws logs n w (omega (arith, l)) b.1

faults-set : (ws : List WriterTells) (n m : ℕ) (w : WriterTells) → (slice_index_or ws n no_tells).faults ≤ w.faults
    → (slice_index_or ws m no_tells).faults ≤ (slice_index_or (slice_set ws n w) m no_tells).faults
faults-set [] n m w h = omega arith
faults-set (x ∷ ws) zero zero w h = h
faults-set (x ∷ ws) zero (suc m) w h = omega arith
faults-set (x ∷ ws) (suc n) zero w h = omega arith
faults-set (x ∷ ws) (suc n) (suc m) w h = faults-set ws n m w h

faults-told : (tells : Tells) (n : ℕ) (w : WriterTells) → (told_by tells n).faults ≤ w.faults → (end : HostEnd) → faults_of tells end ≤ faults_of (with_told tells n w) end
faults-told tells n w h (ends.Writer m) = faults-set tells.writers n m w h
faults-told tells n w h (ends.Reader m) = omega arith

supplied-set : (ws : List WriterTells) (n m : ℕ) (w first : WriterTells) → (IsSuppliedSince first (slice_index_or ws n no_tells) → IsSuppliedSince first w)
    → IsSuppliedSince first (slice_index_or ws m no_tells) → IsSuppliedSince first (slice_index_or (slice_set ws n w) m no_tells)
supplied-set [] n m w first g s = s
supplied-set (x ∷ ws) zero zero w first g s = g s
supplied-set (x ∷ ws) zero (suc m) w first g s = s
supplied-set (x ∷ ws) (suc n) zero w first g s = s
supplied-set (x ∷ ws) (suc n) (suc m) w first g s = supplied-set ws n m w first g s

-- nothing was added since then
pub supplied_since_itself : (tells : Tells) → AreSuppliedSince tells tells
supplied_since_itself tells n =
    let w = told_by tells n in
    subst (All (SaidFits w.payload)) (sym (drop_all (length w.said) w.said (omega arith))) (All-nil (SaidFits w.payload))

-- what host ends told after what they told before
pub record Follows (tells told : Tells) : Type 0 where
  pub begins : (logs : Logs) → Extends told logs → Extends tells logs
  pub supplied : (first : Tells) → AreSuppliedSince first tells → AreSuppliedSince first told
  pub faults : (end : HostEnd) → faults_of tells end ≤ faults_of told end

pub follows-same : (tells : Tells) → Follows tells tells
follows-same tells = record { begins = λ logs e. e; supplied = λ first s. s; faults = λ end. omega arith }

pub follows-told : (tells : Tells) (n : ℕ) (w : WriterTells) → n < length tells.writers → Grows (told_by tells n) w → Follows tells (with_told tells n w)
follows-told tells n w there g = record {
  begins = λ logs e. (begin-before tells.writers logs.writers n w g e.0, e.1);
  supplied = λ first s m. supplied-set tells.writers n m w (told_by first m) (g.supplied (told_by first m)) (s m);
  faults = faults-told tells n w g.faults;
}

pub follows-then : (a b c : Tells) → Follows a b → Follows b c → Follows a c
follows-then a b c f g = record {
  begins = λ logs e. f.begins logs (g.begins logs e);
  supplied = λ first s. g.supplied first (f.supplied first s);
  faults = λ end. le_trans (f.faults end) (g.faults end);
}

-- a part of a step
abbrev pub Part : Type 0
Part = World → Outcome

-- a call that does what the machine does on whatever is yet to come
pub Does-follows : (old new : State) (tells told : Tells) (result : Answered) (machine : Part) → Follows tells told
    → ((logs : Logs) → Extends told logs → Gives result (world_of new told logs) (machine (world_of old tells logs))) → Caused result tells told → Does old new tells told result machine
Does-follows old new tells told result machine f gives cause = record {
  begins = f.begins;
  gives = gives;
  supplied = f.supplied;
  faults = f.faults;
  cause = cause;
}

module _ (old new : State) (tells : Tells) (n : ℕ) (w : WriterTells) (result : Answered) (machine : Part) (there : n < length tells.writers) where
  -- what the machine does, on whatever is yet to come
  abbrev pub AllGive : Type 0
  AllGive = (logs : Logs) → Extends (with_told tells n w) logs → Gives result (world_of new (with_told tells n w) logs) (machine (world_of old tells logs))

  -- a call in which one writer told more
  pub Does-told : Grows (told_by tells n) w → AllGive → Caused result tells (with_told tells n w) → Does old new tells (with_told tells n w) result machine
  Does-told g gives cause =
      Does-follows old new tells (with_told tells n w) result machine (follows-told tells n w there g) gives cause
