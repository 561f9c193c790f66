-- Lists that have the same front, and where they differ.
use Rattle.std.proofs.Common.{◌≡◌, inl, inr, ℕ, ◌+◌, ◌-◌, ◌<◌, ◌≤◌, List, ◌∷◌, length, take, drop, get_or, Some, sym, ap, subst, ◌∙◌, arith}
use Rattle.std.specs.Prelude.{◌≢◌, min, slice_get}
use Rattle.std.proofs.lemmas.List.{take_more_same, take_all, length-drop, get_or-drop, drop-drop}
use Rattle.std.proofs.lemmas.Bool.{cases_lt}
use Rattle.std.proofs.lemmas.Option.{slice_get-get_or, slice_get_past, slice_get_within, slice_get_cases, get_or_from_slice_get, none-some}
use Rattle.strm_tape_runs.specs.Differing.{DifferFirst}

-- one more element is the same
pub front_more : {A : Type 0} (xs ys : List A) (k : ℕ) (x : A) → slice_get xs k ≡ Some x → slice_get ys k ≡ Some x → take k xs ≡ take k ys → take (k + 1) xs ≡ take (k + 1) ys
front_more xs ys k x e f h =
    take_more_same xs ys k x (slice_get_within xs k x e) (slice_get_within ys k x f) h
    (get_or_from_slice_get xs k x x e ∙ sym (get_or_from_slice_get ys k x x f))

-- all are
pub front_all : {A : Type 0} (xs ys : List A) (k : ℕ) → length xs ≤ k → length ys ≤ k → take k xs ≡ take k ys → xs ≡ ys
front_all xs ys k e f h = sym (take_all k xs e) ∙ h ∙ take_all k ys f

-- an element behind a place
pub get-drop : {A : Type 0} (xs : List A) (n k : ℕ) (x : A) → slice_get xs (n + k) ≡ Some x → slice_get (drop n xs) k ≡ Some x
get-drop xs n k x e =
    let inside = slice_get_within xs (n + k) x e in
    slice_get-get_or (drop n xs) k x (omega (arith, inside, length-drop n xs)) ∙ ap Some (get_or-drop n xs k x ∙ get_or_from_slice_get xs (n + k) x x e)

-- the elements behind a place begin with the one that stands there, and the others stand behind it
pub record FirstBehind {A : Type 0} (xs rest : List A) (n : ℕ) (x : A) : Type 0 where
  pub there : slice_get xs n ≡ Some x
  pub behind : rest ≡ drop (n + 1) xs

pub first_behind : {A : Type 0} (xs all rest : List A) (n : ℕ) (x : A) → all ≡ drop n xs → all ≡ x ∷ rest → FirstBehind xs rest n x
first_behind xs all rest n x e f =
    let begins : drop n xs ≡ x ∷ rest = sym e ∙ f in
    let inside : n < length xs = omega (arith, ap length begins, length-drop n xs) in
    let first : get_or xs (n + 0) x ≡ x = sym (get_or-drop n xs 0 x) ∙ ap (λ ys. get_or ys 0 x) begins in
    let here : n + 0 ≡ n = omega arith in
    record {
      there = slice_get-get_or xs n x inside ∙ ap Some (ap (λ k. get_or xs k x) (sym here) ∙ first);
      behind = sym (ap (λ ys. drop 1 ys) begins) ∙ drop-drop 1 n xs;
    }

-- LISTS BEHIND A PLACE

module _ {A : Type 0} (xs ys : List A) (from at : ℕ) where
  -- one more element behind it is the same
  pub behind_more : (x : A) → slice_get xs (from + at) ≡ Some x → slice_get ys at ≡ Some x → take at (drop from xs) ≡ take at ys → take (at + 1) (drop from xs) ≡ take (at + 1) ys
  behind_more x e f h = front_more (drop from xs) ys at x (get-drop xs from at x e) f h

  -- the next one is another
  pub behind_differs : (x : A) → from + at < length xs → slice_get ys at ≡ Some x → (slice_get xs (from + at) ≡ Some x → ⊥) → take at (drop from xs) ≡ take at ys → DifferFirst at (drop from xs) ys
  behind_differs x inside f n h = record {
    before = h;
    there = λ s. n (slice_get-get_or xs (from + at) x inside ∙ ap Some (sym (get_or-drop from xs at x) ∙ get_or_from_slice_get (drop from xs) at x x (s ∙ f)));
  }

-- as many elements are the same as both have, and both have as many
pub all_same : {A : Type 0} (xs ys : List A) (both : ℕ) → length xs ≡ length ys → both ≡ min (length xs) (length ys) → take both xs ≡ take both ys → xs ≡ ys
all_same xs ys both e m h = front_all xs ys both (omega (arith, e, m)) (omega (arith, e, m)) h

-- one ends where the other has an element
ends_apart : {A : Type 0} (xs ys : List A) (k : ℕ) → length xs ≤ k → k < length ys → slice_get xs k ≡ slice_get ys k → ⊥
ends_apart xs ys k e f s =
    elim (slice_get_cases ys k).1 [
      | inl y ↦ none-some y.0 (sym (slice_get_past xs k e) ∙ s ∙ y.2)
      | inr past ↦ omega (arith, f, past.0)
    ]

-- or one of them has more
pub apart_behind : {A : Type 0} (xs ys : List A) (both : ℕ) → length xs ≢ length ys → both ≡ min (length xs) (length ys) → take both xs ≡ take both ys → DifferFirst both xs ys
apart_behind xs ys both n m h = record {
  before = h;
  there = λ s. elim (cases_lt (length xs) (length ys)) [
    | inl shorter ↦ ends_apart xs ys both (omega (arith, shorter, m)) (omega (arith, shorter, m)) s
    | inr longer ↦ ends_apart ys xs both (omega (arith, longer, m)) (omega (arith, longer, m, n)) (sym s)
  ];
}

-- the same behind a place, by how many elements there are
pub apart_at : {A : Type 0} (xs ys : List A) (from count at both : ℕ) → count ≡ length xs → both ≡ at → count - from ≢ length ys → both ≡ min (count - from) (length ys) → take at (drop from xs) ≡ take at ys → DifferFirst both (drop from xs) ys
apart_at xs ys from count at both e f n m h =
    let here : length (drop from xs) ≡ count - from = length-drop from xs ∙ ap (λ k. k - from) (sym e) in
    apart_behind (drop from xs) ys both (λ q. n (sym here ∙ q)) (m ∙ ap (λ k. min k (length ys)) (sym here)) (subst (λ k. take k (drop from xs) ≡ take k ys) (sym f) h)
