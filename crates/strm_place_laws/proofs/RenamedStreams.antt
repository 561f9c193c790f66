-- Streams stay equal under their numbers where one of them is set, and where one is made.
use Rattle.std.proofs.Common.{◌≡◌, ◌≢◌, true, false, ℕ, ◌+◌, ◌<◌, ◌≤◌, Bool, List, [], ◌∷◌, ◌++◌, length, get_or, set, refl, sym, ap, ◌∙◌, subst, arith, cond, ⊎_elim, length-append, length-set}
use Rattle.std.specs.Prelude.{count_by}
use Rattle.std.proofs.lemmas.Bool.{cases_eq, eq-eqb, ne_eqb}
use Rattle.std.proofs.lemmas.List.{get_or_push, get_or_append_left, get_or_past, get_or-set_same, get_or-set_other}
use Rattle.std.proofs.lemmas.List.Sums.{sum_by-set, sum_by_push}
use Rattle.strm_machine.specs.Words.{no_stream}
use Rattle.strm_machine.specs.declared.streams.Stream.{Stream}
use Rattle.strm_machine.specs.State.{is_live}
use Rattle.strm_places.specs.Again.{IsFree, Behind, Again, put}
use Rattle.strm_places.proofs.AgainLemmas.{put-behind, put-again}
use Rattle.strm_place_laws.specs.Renaming.{AreRenamed, with_number}

-- ## How many are live

abbrev pub live_by : Bool → ℕ
live_by b = cond b 1 0

abbrev pub weight : Stream → ℕ
weight stream = live_by (is_live stream)

live_set : (xs : List Stream) (n : ℕ) (x : Stream) → n < length xs → count_by is_live (set xs n x) + weight (get_or xs n no_stream) ≡ count_by is_live xs + weight x
live_set xs n x l = sum_by-set weight xs n x no_stream l

live_push : (xs : List Stream) (x : Stream) → count_by is_live (xs ++ x ∷ []) ≡ count_by is_live xs + weight x
live_push xs x = sum_by_push weight xs x

-- ## Numbers

pub number-here : (f : ℕ → ℕ) (n m : ℕ) → with_number f n m n ≡ m
number-here f n m = ap (λ b. cond b m (f n)) (eq-eqb n n refl)

pub number-other : (f : ℕ → ℕ) (n m s : ℕ) → s ≢ n → with_number f n m s ≡ f s
number-other f n m s ne = ap (λ b. cond b m (f s)) (ne_eqb s n ne)

-- ## A stream is set

module _ (f : ℕ → ℕ) (slim full : List Stream) (r : AreRenamed f slim full) (n : ℕ) (x : Stream) (l : n < length slim) where
  was : (s : ℕ) → s < length (set slim n x) → s < length slim
  was s lt = omega (arith, lt, length-set slim n x)

  set_same : (s : ℕ) → s < length slim → get_or (set full (f n) x) (f s) no_stream ≡ get_or (set slim n x) s no_stream
  set_same s lt =
      ⊎_elim
      (λ q. ap (λ k. get_or (set full (f n) x) (f k) no_stream) q
      ∙ get_or-set_same full (f n) x no_stream (r.there n l)
      ∙ sym (get_or-set_same slim n x no_stream l)
      ∙ sym (ap (λ k. get_or (set slim n x) k no_stream) q))
      (λ ne. get_or-set_other full (f n) (f s) x no_stream (λ e. ne (r.single s n lt l e))
      ∙ r.same s lt
      ∙ sym (get_or-set_other slim n s x no_stream ne))
      (cases_eq s n)

  pub AreRenamed-set : AreRenamed f (set slim n x) (set full (f n) x)
  AreRenamed-set = record {
    there = λ s lt. omega (arith, r.there s (was s lt), length-set full (f n) x);
    single = λ s t a b e. r.single s t (was s a) (was t b) e;
    same = λ s lt. set_same s (was s lt);
    live =
        let one = live_set slim n x l in
        let other = live_set full (f n) x (r.there n l) in
        let weights : weight (get_or full (f n) no_stream) ≡ weight (get_or slim n no_stream) = ap weight (r.same n l) in
        omega (arith, one, other, weights, r.live);
    few = omega (arith, r.few, length-set slim n x, length-set full (f n) x);
  }

-- ## A stream is made

-- what a list has once a live stream is in a free place of it
pub record PutsOne (slim : List Stream) (n : ℕ) (x : Stream) (after : List Stream) : Type 0 where
  pub there : n < length after
  pub here : get_or after n no_stream ≡ x
  pub was : (s : ℕ) → s ≢ n → s < length after → s < length slim
  pub same : (s : ℕ) → s ≢ n → s < length after → get_or after s no_stream ≡ get_or slim s no_stream
  pub live : count_by is_live after ≡ count_by is_live slim + 1
  pub few : length after ≤ length slim + 1
  pub grows : length slim ≤ length after

puts_behind : (slim : List Stream) (x : Stream) → is_live x ≡ true → PutsOne slim (length slim) x (slim ++ x ∷ [])
puts_behind slim x e =
    let long : length (slim ++ x ∷ []) ≡ length slim + 1 = length-append slim (x ∷ []) in
    record {
      there = omega (arith, long);
      here = get_or_push slim x no_stream (length slim) refl;
      was = λ s ne lt. omega (arith, long, ne, lt);
      same = λ s ne lt. get_or_append_left slim (x ∷ []) no_stream s (omega (arith, long, ne, lt));
      live = live_push slim x ∙ ap (λ b. count_by is_live slim + live_by b) e;
      few = omega (arith, long);
      grows = omega (arith, long);
    }

puts_again : (slim : List Stream) (n : ℕ) (x : Stream) → n < length slim → is_live (get_or slim n no_stream) ≡ false → is_live x ≡ true → PutsOne slim n x (set slim n x)
puts_again slim n x l gone e =
    let long : length (set slim n x) ≡ length slim = length-set slim n x in
    let one = live_set slim n x l in
    let old : weight (get_or slim n no_stream) ≡ 0 = ap live_by gone in
    let new : weight x ≡ 1 = ap live_by e in
    record {
      there = omega (arith, l, long);
      here = get_or-set_same slim n x no_stream l;
      was = λ s ne lt. omega (arith, long, lt);
      same = λ s ne lt. get_or-set_other slim n s x no_stream ne;
      live = omega (arith, one, old, new);
      few = omega (arith, long);
      grows = omega (arith, long);
    }

pub PutsOne-put : (slim : List Stream) (n : ℕ) (x : Stream) → IsFree slim n → is_live x ≡ true → PutsOne slim n x (put slim n x)
PutsOne-put slim n x (Behind q) e =
    subst (λ k. PutsOne slim k x (put slim k x)) (sym q)
    (subst (PutsOne slim (length slim) x) (sym (put-behind slim x)) (puts_behind slim x e))
PutsOne-put slim n x (Again l gone) e = subst (PutsOne slim n x) (sym (put-again slim n x l)) (puts_again slim n x l gone e)

-- the place of a number that may be given is of no stream that is there
pub free_gone : (slim : List Stream) (n : ℕ) → IsFree slim n → is_live (get_or slim n no_stream) ≡ false
free_gone slim n (Behind q) = ap is_live (get_or_past slim n no_stream (omega (arith, q)))
free_gone slim n (Again l gone) = gone

module _ (f : ℕ → ℕ) (slim full : List Stream) (r : AreRenamed f slim full) (n : ℕ) (x : Stream) (alive : is_live x ≡ true) (after : List Stream) (p : PutsOne slim n x after) where
  abbrev last : ℕ
  last = length full

  abbrev next : ℕ → ℕ
  next = with_number f n last

  -- its number, and those of the others
  either : (P : ℕ → ℕ → Type 0) → P n last → ((s : ℕ) → s ≢ n → s < length slim → P s (f s)) → (s : ℕ) → s < length after → P s (next s)
  either P here there s lt =
      ⊎_elim
      (λ q. subst (λ k. P k (next k)) (sym q) (subst (P n) (sym (number-here f n last)) here))
      (λ ne. subst (P s) (sym (number-other f n last s ne)) (there s ne (p.was s ne lt)))
      (cases_eq s n)

  long : length (full ++ x ∷ []) ≡ length full + 1
  long = length-append full (x ∷ [])

  made_there : (s : ℕ) → s < length after → next s < length (full ++ x ∷ [])
  made_there = either (λ s k. k < length (full ++ x ∷ [])) (omega (arith, long)) (λ s ne lt. omega (arith, long, r.there s lt))

  made_same : (s : ℕ) → s < length after → get_or (full ++ x ∷ []) (next s) no_stream ≡ get_or after s no_stream
  made_same s lt =
      either (λ s k. s < length after → get_or (full ++ x ∷ []) k no_stream ≡ get_or after s no_stream)
      (λ l. get_or_push full x no_stream last refl ∙ sym p.here)
      (λ s ne was l. get_or_append_left full (x ∷ []) no_stream (f s) (r.there s was) ∙ r.same s was ∙ sym (p.same s ne l))
      s lt lt

  -- no other has the number behind the last
  apart_from : (s : ℕ) → s < length after → next s ≡ last → s ≡ n
  apart_from = either (λ s k. k ≡ last → s ≡ n) (λ e. refl) (λ s ne lt e. absurd (omega (arith, e, r.there s lt)))

  made_single : (s t : ℕ) → s < length after → t < length after → next s ≡ next t → s ≡ t
  made_single s t a b e =
      ⊎_elim
      (λ q. sym (apart_from t b (sym e ∙ ap next q ∙ number-here f n last) ∙ sym q))
      (λ ne.
      ⊎_elim
      (λ q. absurd (ne (apart_from s a (e ∙ ap next q ∙ number-here f n last))))
      (λ other. r.single s t (p.was s ne a) (p.was t other b) (sym (number-other f n last s ne) ∙ e ∙ number-other f n last t other))
      (cases_eq t n))
      (cases_eq s n)

  pub AreRenamed-made : AreRenamed next after (full ++ x ∷ [])
  AreRenamed-made = record {
    there = made_there;
    single = made_single;
    same = made_same;
    live =
        let one : count_by is_live (full ++ x ∷ []) ≡ count_by is_live full + 1 = live_push full x ∙ ap (λ b. count_by is_live full + live_by b) alive in
        omega (arith, one, p.live, r.live);
    few = omega (arith, p.few, r.few, long);
  }
