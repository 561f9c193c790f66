-- Host ends that fit those of a tape, one by one.
use Rattle.std.proofs.Common.{◌≡◌, ℕ, ◌+◌, ◌<◌, List, [], ◌∷◌, ◌++◌, get_or, slice_get, length, map, take, Some, refl, sym, ap, ◌∙◌}
use Rattle.std.proofs.lemmas.List.{take_more}
use Rattle.std.proofs.lemmas.Option.{slice_get_within, get_or_from_slice_get}

map_append : {A B : Type 0} (f : A → B) (xs ys : List A) → map f (xs ++ ys) ≡ map f xs ++ map f ys
map_append f [] ys = refl
map_append f (x ∷ xs) ys = ap (λ l. f x ∷ l) (map_append f xs ys)

-- the first of a list, seen through a function, and one more
seen_more : {A C : Type 0} (f : A → C) (xs : List A) (n : ℕ) (d : A) → n < length xs → map f (take (n + 1) xs) ≡ map f (take n xs) ++ f (get_or xs n d) ∷ []
seen_more f xs n d less = ap (map f) (take_more xs n d less) ∙ map_append f (take n xs) (get_or xs n d ∷ [])

-- one more end fits
pub fits_more : {A B C : Type 0} (f : A → C) (h : B → C) (xs : List A) (ys : List B) (n : ℕ) (d : A) (y : B) (c : C)
    → n < length xs → slice_get ys n ≡ Some y → c ≡ h y → f (get_or xs n d) ≡ c
    → map f (take n xs) ≡ map h (take n ys) → map f (take (n + 1) xs) ≡ map h (take (n + 1) ys)
fits_more f h xs ys n d y c less there typed fits before =
    seen_more f xs n d less ∙ ap (λ l. l ++ f (get_or xs n d) ∷ []) before
    ∙ ap (λ z. map h (take n ys) ++ z ∷ []) (fits ∙ typed ∙ ap h (sym (get_or_from_slice_get ys n y y there)))
    ∙ sym (seen_more h ys n y (slice_get_within ys n y there))
