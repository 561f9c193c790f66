-- A test of each thing in a row, one after the other.
use Rattle.std.proofs.Common.{◌≡◌, ℕ, ◌+◌, ◌<◌, ◌≤◌, Bool, true, false, ◌&&◌, List, length, get_or, take, refl, sym, ap, ◌∙◌}
use Rattle.std.specs.List.{list_all}
use Rattle.std.proofs.lemmas.Bool.{and_from}
use Rattle.std.proofs.lemmas.List.{take_all}
use Rattle.std.proofs.lemmas.List.Folds.{list_all_more, list_all_at}

module _ {X : Type 0} (f : X → Bool) (xs : List X) (k : ℕ) where
  pub all_more : (d : X) → k < length xs → list_all f (take k xs) ≡ true → f (get_or xs k d) ≡ true → list_all f (take (k + 1) xs) ≡ true
  all_more d h e g = list_all_more f xs k d h ∙ and_from (list_all f (take k xs)) (f (get_or xs k d)) e g

  pub not_all : (d : X) → k < length xs → f (get_or xs k d) ≡ false → false ≡ list_all f xs
  not_all d h g = sym (list_all_at f xs k d h g)

  pub all_over : length xs ≤ k → list_all f (take k xs) ≡ true → true ≡ list_all f xs
  all_over h e = sym e ∙ ap (list_all f) (take_all k xs h)

-- a test in front of nothing more
pub and_true : (b : Bool) → (b && true) ≡ b
and_true true = refl
and_true false = refl
