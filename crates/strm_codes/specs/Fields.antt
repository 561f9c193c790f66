-- Fields that are scalars: how they lie in an item, and which numbers they are.
-- Canonical ABI, "Alignment", "Element Size" and "Loading", for records of scalars.
use Rattle.std.specs.Prelude.{ℕ, ◌+◌, max, ℤ, List, [], ◌∷◌}
use Rattle.strm_codes.specs.Offsets.{gap_before}
use Rattle.strm_codes.specs.Scalars.{size_of, FitsScalar}
use Rattle.strm_codes.specs.declared.scalars.Scalar.{Scalar}

-- where the fields end, the first of which may begin at an offset
abbrev pub end_offset : ℕ → List Scalar → ℕ
end_offset at [] = at
end_offset at (s ∷ ss) = end_offset (at + gap_before at (size_of s) + size_of s) ss

-- the greatest alignment of the fields
abbrev pub fields_align : List Scalar → ℕ
fields_align [] = 1
fields_align (s ∷ ss) = max (size_of s) (fields_align ss)

-- the bytes of an item: its fields, rounded up to its alignment
abbrev pub fields_size : List Scalar → ℕ
fields_size ss = end_offset 0 ss + gap_before (end_offset 0 ss) (fields_align ss)

-- a number for each field, which fits it
abbrev pub FitsFields : List Scalar → List ℤ → Type 0
FitsFields [] [] = Unit {0}
FitsFields [] (x ∷ xs) = ⊥
FitsFields (s ∷ ss) [] = ⊥
FitsFields (s ∷ ss) (x ∷ xs) = FitsScalar s x × FitsFields ss xs
