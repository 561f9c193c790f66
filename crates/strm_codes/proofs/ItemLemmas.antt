-- Whether numbers are an item, one field at a time.
use Rattle.std.proofs.Common.{◌≡◌, ℕ, ◌+◌, ◌<◌, ◌≤◌, ℤ, pos, List, [], ◌∷◌, length, drop, get_or, arith}
use Rattle.std.proofs.lemmas.List.{drop_more, drop_all}
use Rattle.strm_codes.specs.Scalars.{FitsScalar}
use Rattle.strm_codes.specs.Fields.{FitsFields}
use Rattle.strm_codes.specs.declared.scalars.Scalar.{Scalar}
use Rattle.strm_codes.specs.declared.scalars.Scalar.TheVariants.{Bool as Flag}

pub length-FitsFields : (ss : List Scalar) (xs : List ℤ) → FitsFields ss xs → length ss ≡ length xs
length-FitsFields [] [] f = omega arith
length-FitsFields [] (x ∷ xs) f = absurd f
length-FitsFields (s ∷ ss) [] f = absurd f
length-FitsFields (s ∷ ss) (x ∷ xs) f = omega (arith, length-FitsFields ss xs f.1)

-- the fields from one on are that one and the ones behind it
pub FitsFields-split : (ss : List Scalar) (xs : List ℤ) (k : ℕ) → k < length ss → k < length xs → FitsFields (drop k ss) (drop k xs) → FitsScalar (get_or ss k Flag) (get_or xs k (pos 0)) × FitsFields (drop (k + 1) ss) (drop (k + 1) xs)
FitsFields-split ss xs k h l f = rw (drop_more ss k Flag h, drop_more xs k (pos 0) l) at f

pub FitsFields-join : (ss : List Scalar) (xs : List ℤ) (k : ℕ) → k < length ss → k < length xs → FitsScalar (get_or ss k Flag) (get_or xs k (pos 0)) → FitsFields (drop (k + 1) ss) (drop (k + 1) xs) → FitsFields (drop k ss) (drop k xs)
FitsFields-join ss xs k h l one rest = rw (drop_more ss k Flag h, drop_more xs k (pos 0) l) (one, rest)

pub FitsFields-end : (ss : List Scalar) (xs : List ℤ) (k : ℕ) → length ss ≤ k → length xs ≤ k → FitsFields (drop k ss) (drop k xs)
FitsFields-end ss xs k h l = rw (drop_all k ss h, drop_all k xs l) tt
