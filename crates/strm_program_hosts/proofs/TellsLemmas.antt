-- What boxed host ends tell, one by one.
use Rattle.std.proofs.Common.{◌≡◌, List, ◌∷◌, ap, ◌∙◌}

pub both : {A : Type 0} {x y : A} {xs ys : List A} → x ≡ y → xs ≡ ys → x ∷ xs ≡ y ∷ ys
both {A} {x} {y} {xs} {ys} e f = ap (λ a. a ∷ xs) e ∙ ap (λ zs. y ∷ zs) f
