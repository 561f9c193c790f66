-- Lists that are seen through functions, up to a place.
use Rattle.std.proofs.Common.{◌≡◌, ℕ, ◌+◌, ◌<◌, ◌≤◌, List, [], ◌∷◌, ◌++◌, length, take, map, get_or, refl, sym, ap, ◌∙◌}
use Rattle.std.proofs.lemmas.List.{take_all, take_more}

map_append : {A B : Type 0} (f : A → B) (xs ys : List A) → map f (xs ++ ys) ≡ map f xs ++ map f ys
map_append f [] ys = refl
map_append f (x ∷ xs) ys = ap (λ l. f x ∷ l) (map_append f xs ys)

-- one more was seen
pub seen_next : {A B : Type 0} (f : A → B) (xs : List A) (n : ℕ) (d : A) (ys zs : List B) → n < length xs → ys ≡ map f (take n xs) → zs ≡ ys ++ f (get_or xs n d) ∷ [] → zs ≡ map f (take (n + 1) xs)
seen_next f xs n d ys zs l e h =
    h ∙ ap (λ us. us ++ f (get_or xs n d) ∷ []) e ∙ sym (map_append f (take n xs) (get_or xs n d ∷ [])) ∙ sym (ap (map f) (take_more xs n d l))

-- all were
pub all_seen : {A B : Type 0} (f : A → B) (xs : List A) (n : ℕ) (ys : List B) → length xs ≤ n → ys ≡ map f (take n xs) → ys ≡ map f xs
all_seen f xs n ys e h = h ∙ ap (map f) (take_all n xs e)
