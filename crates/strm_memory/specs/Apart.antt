-- Values with the same numbers are the same, field by field: what the laws of typed items say. Ours.
use Rattle.std.specs.Prelude.{◌≡◌, ℤ, pos, List, [], ◌∷◌}
use Rattle.std.proofs.Common.{ap, sym, ◌∙◌}

-- no two values are one number
abbrev pub TellsApart : {A : Type 0} → (A → ℤ) → Type 0
TellsApart {A} f = (x y : A) → f x ≡ f y → x ≡ y

-- no two values are one list of numbers
abbrev pub ListsApart : {A : Type 0} → (A → List ℤ) → Type 0
ListsApart {A} f = (x y : A) → f x ≡ f y → x ≡ y

-- the first number
abbrev first_of : List ℤ → ℤ
first_of [] = pos 0
first_of (x ∷ xs) = x

-- the numbers behind it
abbrev rest_of : List ℤ → List ℤ
rest_of [] = []
rest_of (x ∷ xs) = xs

-- one field
pub one_apart : {A : Type 0} (f : A → ℤ) → TellsApart f → ListsApart (λ x. f x ∷ [])
one_apart f p x y h = p x y (ap first_of h)

-- a field and the ones behind it
pub more_apart : {A B : Type 0} (f : A → ℤ) (g : B → List ℤ) → TellsApart f → ListsApart g → ListsApart (λ (x : A × B). f x.0 ∷ g x.1)
more_apart f g p q (a, b) (c, d) h = ap (λ x. (x, b)) (p a c (ap first_of h)) ∙ ap (λ y. (c, y)) (q b d (ap rest_of h))

-- the same values of one number, seen as another type's
pub held_apart : {A B : Type 0} (f : B → ℤ) (to : A → B) (back : B → A) → ((x : A) → back (to x) ≡ x) → TellsApart f → TellsApart (λ x. f (to x))
held_apart f to back same p x y h = sym (same x) ∙ ap back (p (to x) (to y) h) ∙ same y

-- the same values, seen as another type's
pub seen_apart : {A B : Type 0} {f : B → List ℤ} (to : A → B) (back : B → A) → ((x : A) → back (to x) ≡ x) → ListsApart f → ListsApart (λ x. f (to x))
seen_apart to back same p x y h = sym (same x) ∙ ap back (p (to x) (to y) h) ∙ same y
