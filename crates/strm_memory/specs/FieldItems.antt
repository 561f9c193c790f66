-- The numbers of an item of scalar fields, field by field (representation only): what `decode` and `encode`
-- say of the record of these fields. Ours.
use Rattle.std.specs.Prelude.{ℕ, ◌+◌, ℤ, List, [], ◌∷◌, ◌++◌, take, drop, slice_index_or, Option, Some, option_and_then}
use Rattle.std.specs.Option.{option_map}
use Rattle.strm_codes.specs.Offsets.{gap_before}
use Rattle.strm_codes.specs.Scalars.{size_of}
use Rattle.strm_codes.specs.declared.scalars.Scalar.{Scalar}
use Rattle.strm_codes.specs.declared.scalars.Scalar.TheVariants.{Bool as Flag}
use Rattle.strm_memory.specs.Bytes.{le, to_le}
use Rattle.strm_memory.specs.Numbers.{lifted, lowered}

-- the scalar of a field, from 0
abbrev pub scalar_at : List Scalar → ℕ → Scalar
scalar_at ss k = slice_index_or ss k Flag

-- the numbers of the fields that may begin at an offset of an item, from its bytes from there on;
-- none where a field is none
unfoldable pub decode_from : ℕ → List Scalar → List ℕ → Option (List ℤ)
decode_from at [] bytes = Some []
decode_from at (s ∷ ss) bytes =
    let gap = gap_before at (size_of s) in
    let number = lifted s (le (take (size_of s) (drop gap bytes))) in
    let rest = decode_from (at + gap + size_of s) ss (drop (gap + size_of s) bytes) in
    option_and_then (λ x. option_map (λ xs. x ∷ xs) rest) number

-- the bytes with these numbers in those fields, and all else as it was
unfoldable pub encode_from : ℕ → List Scalar → List ℕ → List ℤ → List ℕ
encode_from at [] bytes xs = bytes
encode_from at (s ∷ ss) bytes [] = bytes
encode_from at (s ∷ ss) bytes (x ∷ xs) =
    let gap = gap_before at (size_of s) in
    take gap bytes
    ++ to_le (size_of s) (lowered s x)
    ++ encode_from (at + gap + size_of s) ss (drop (gap + size_of s) bytes) xs
