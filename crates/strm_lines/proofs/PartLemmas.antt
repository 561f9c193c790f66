-- Texts that have some of the bytes that are added, from their front.
use Rattle.std.proofs.Common.{◌≡◌, ℕ, ◌+◌, ◌<◌, List, [], ◌∷◌, ◌++◌, length, get_or, take, drop, refl, sym, ap, ◌∙◌, append_assoc}
use Rattle.std.specs.List.{flat_map}
use Rattle.std.proofs.lemmas.Grind.{flat_map-append}
use Rattle.std.proofs.lemmas.List.Concat.{flat_map-cons}
use Rattle.std.proofs.lemmas.List.{append-nil, drop_more, take-append-drop}
use Rattle.strm_lines.specs.Text.{HasPart}

-- none of them
pub part_none : (old bytes : List ℕ) → HasPart old old bytes
part_none old bytes = ([], bytes, refl, sym (append-nil old))

-- the same bytes by another word
pub part_same : (old new a b : List ℕ) → a ≡ b → HasPart old new a → HasPart old new b
part_same old new a b e p = (p.0, p.1, sym e ∙ p.2, p.3)

-- all of the front, and some of the middle
pub part_more : (old mid new front more back : List ℕ) → mid ≡ old ++ front → HasPart mid new more → HasPart old new (front ++ (more ++ back))
part_more old mid new front more back e p = (
  front ++ p.0,
  p.1 ++ back,
  ap (λ m. front ++ (m ++ back)) p.2 ∙ ap (λ m. front ++ m) (append_assoc p.0 p.1 back) ∙ sym (append_assoc front p.0 (p.1 ++ back)),
  p.3 ∙ ap (λ m. m ++ p.0) e ∙ append_assoc old front p.0,
)

-- all of the items before one, and some of it
pub part_of_item : {X : Type 0} (f : X → List ℕ) (xs : List X) (k : ℕ) (d : X) (old mid new : List ℕ) → k < length xs → mid ≡ old ++ flat_map f (take k xs) → HasPart mid new (f (get_or xs k d)) → HasPart old new (flat_map f xs)
part_of_item f xs k d old mid new h e p =
    let whole : xs ≡ take k xs ++ (get_or xs k d ∷ drop (k + 1) xs) = sym (take-append-drop k xs) ∙ ap (λ r. take k xs ++ r) (drop_more xs k d h) in
    let parts : flat_map f xs ≡ flat_map f (take k xs) ++ (f (get_or xs k d) ++ flat_map f (drop (k + 1) xs)) =
    ap (flat_map f) whole ∙ flat_map-append f (take k xs) (get_or xs k d ∷ drop (k + 1) xs) ∙ ap (λ r. flat_map f (take k xs) ++ r) (flat_map-cons f (get_or xs k d) (drop (k + 1) xs)) in
    part_same old new _ _ (sym parts) (part_more old mid new (flat_map f (take k xs)) (f (get_or xs k d)) (flat_map f (drop (k + 1) xs)) e p)

-- all of the items before one
pub part_of_items : {X : Type 0} (f : X → List ℕ) (xs : List X) (k : ℕ) (old new : List ℕ) → new ≡ old ++ flat_map f (take k xs) → HasPart old new (flat_map f xs)
part_of_items f xs k old new e = (
  flat_map f (take k xs),
  flat_map f (drop k xs),
  ap (flat_map f) (sym (take-append-drop k xs)) ∙ flat_map-append f (take k xs) (drop k xs),
  e,
)
