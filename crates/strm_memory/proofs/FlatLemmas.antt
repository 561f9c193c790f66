-- An item of scalars, field by field.
use Rattle.std.proofs.Common.{◌≡◌, ℕ, ◌+◌, ℤ, List, [], ◌∷◌, ◌++◌, take, drop, Option, Some, None, refl, ap, ◌∙◌, append_assoc}
use Rattle.std.proofs.lemmas.List.{take_at, drop-drop, take-append-drop}
use Rattle.std.specs.Option.{option_map}
use Rattle.std.specs.Prelude.{option_and_then}
use Rattle.strm_codes.specs.Scalars.{size_of}
use Rattle.strm_codes.specs.Offsets.{gap_before}
use Rattle.strm_codes.specs.ItemTypes.{fields, fields_type}
use Rattle.strm_codes.specs.declared.scalars.Scalar.{Scalar}
use Rattle.strm_memory.specs.Bytes.{le, to_le}
use Rattle.strm_memory.specs.Numbers.{lifted, lowered}
use Rattle.strm_memory.specs.FieldItems.{decode_from, encode_from}
use Rattle.strm_memory.specs.Loads.{both, decode, decode_parts, encode, encode_parts}
use Rattle.strm_memory.proofs.ByteLemmas.{length-to_le}

one_before : (o : Option ℤ) (p : Option (List ℤ)) → both (option_map (λ x. x ∷ []) o) p ≡ option_and_then (λ x. option_map (λ xs. x ∷ xs) p) o
one_before None p = refl
one_before (Some x) None = refl
one_before (Some x) (Some xs) = refl

decode_parts-flat : (at : ℕ) (ss : List Scalar) (bytes : List ℕ) → decode_parts at (fields ss) bytes ≡ decode_from at ss bytes
unfolding decode decode_from
decode_parts-flat at [] bytes = refl
decode_parts-flat at (s ∷ ss) bytes =
    let gap = gap_before at (size_of s) in
    rw (decode_parts-flat (at + gap + size_of s) ss (drop (gap + size_of s) bytes))
    (one_before (lifted s (le (take (size_of s) (drop gap bytes)))) (decode_from (at + gap + size_of s) ss (drop (gap + size_of s) bytes)))

pub decode-flat : (ss : List Scalar) (bytes : List ℕ) → decode (fields_type ss) bytes ≡ decode_from 0 ss bytes
unfolding decode
decode-flat ss bytes = decode_parts-flat 0 ss bytes

encode_parts-flat : (at : ℕ) (ss : List Scalar) (bytes : List ℕ) (xs : List ℤ) → encode_parts at (fields ss) bytes xs ≡ encode_from at ss bytes xs
unfolding encode encode_from
encode_parts-flat at [] bytes xs = refl
encode_parts-flat at (s ∷ ss) bytes [] =
    let gap = gap_before at (size_of s) in
    let w = size_of s in
    rw (encode_parts-flat (at + gap + w) ss (drop (gap + w) bytes) [], none ss (at + gap + w) (drop (gap + w) bytes), ← drop-drop w gap bytes)
    (append_assoc (take gap bytes) (take w (drop gap bytes)) (drop w (drop gap bytes)) ∙ ap (λ l. take gap bytes ++ l) (take-append-drop w (drop gap bytes)) ∙ take-append-drop gap bytes)
  where
    none : (ss : List Scalar) (at : ℕ) (bytes : List ℕ) → encode_from at ss bytes [] ≡ bytes
    none [] at bytes = refl
    none (s ∷ ss) at bytes = refl
encode_parts-flat at (s ∷ ss) bytes (x ∷ xs) =
    let gap = gap_before at (size_of s) in
    let w = size_of s in
    let new = to_le w (lowered s x) in
    rw (encode_parts-flat (at + gap + w) ss (drop (gap + w) bytes) xs, take_at new (drop w (drop gap bytes)) w (length-to_le w (lowered s x))) refl

pub encode-flat : (ss : List Scalar) (bytes : List ℕ) (xs : List ℤ) → encode (fields_type ss) bytes xs ≡ encode_from 0 ss bytes xs
unfolding encode
encode-flat ss bytes xs = encode_parts-flat 0 ss bytes xs
