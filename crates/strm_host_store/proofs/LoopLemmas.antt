-- A list whose elements are changed one after the other, from the front on.
use Rattle.std.proofs.Common.{◌≡◌, ◌<◌, ℕ, suc, zero, List, [], ◌∷◌, ◌++◌, map, length, take, drop, refl, ap, arith}
use Rattle.std.specs.Prelude.{slice_index_or, slice_set}

module _ {A : Type 0} (f : A → A) (d : A) where
  -- so many at the front are changed
  abbrev pub changed_first : ℕ → List A → List A
  changed_first n xs = map f (take n xs) ++ drop n xs

  pub length-changed_first : (n : ℕ) (xs : List A) → length (changed_first n xs) ≡ length xs
  length-changed_first zero xs = refl
  length-changed_first (suc n) [] = refl
  length-changed_first (suc n) (x ∷ xs) = ap suc (length-changed_first n xs)

  -- then one more
  pub changed_more : (i : ℕ) (xs : List A) → i < length xs → slice_set (changed_first i xs) i (f (slice_index_or (changed_first i xs) i d)) ≡ changed_first (suc i) xs
  changed_more i [] h = absurd (omega (arith, h))
  changed_more zero (x ∷ xs) h = refl
  changed_more (suc i) (x ∷ xs) h = ap (λ (ys : List A). f x ∷ ys) (changed_more i xs (omega (arith, h)))

  -- and in the end all
  pub changed_all : (xs : List A) → changed_first (length xs) xs ≡ map f xs
  changed_all [] = refl
  changed_all (x ∷ xs) = ap (λ (ys : List A). f x ∷ ys) (changed_all xs)
