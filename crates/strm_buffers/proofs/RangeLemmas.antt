-- The rest of a range of a list.
use Rattle.std.proofs.Common.{◌≡◌, ℕ, ◌+◌, ◌-◌, ◌≤◌, List, take, drop, length, ap, sym, ◌∙◌, arith}
use Rattle.std.specs.List.{slice_range}
use Rattle.std.proofs.lemmas.List.{drop-drop, drop-take, length-take-le, length-drop}

pub drop-slice_range : {A : Type 0} (xs : List A) (a b n : ℕ) → a + n ≤ b → slice_range xs (a + n) b ≡ drop n (slice_range xs a b)
drop-slice_range xs a b n h =
    let e : b - a ≡ n + (b - (a + n)) = omega arith in
    sym (ap (λ k. drop n (take k (drop a xs))) e ∙ drop-take n (b - (a + n)) (drop a xs) ∙ ap (take (b - (a + n))) (drop-drop n a xs))

pub length-slice_range : {A : Type 0} (xs : List A) (a b : ℕ) → a ≤ b → b ≤ length xs → length (slice_range xs a b) ≡ b - a
length-slice_range xs a b h k = length-take-le (b - a) (drop a xs) (omega (arith, length-drop a xs))
