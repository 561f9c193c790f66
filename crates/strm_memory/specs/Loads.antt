-- The item that lies at the front of bytes, and bytes with an item at their front. An item is a list of
-- numbers: those of its fields in order, and of a variant the number of its case and then those of its
-- value.
-- Canonical ABI, "Loading" and "Storing": `load` and `store`, `load_record`, `load_variant`, `load_flags`.
use Rattle.std.specs.Prelude.{ℕ, zero, suc, ◌+◌, ◌-◌, ◌%◌, ℤ, pos, List, [], ◌∷◌, ◌++◌, take, drop, Option, Some, None, option_and_then}
use Rattle.std.specs.Option.{option_map}
use Rattle.strm_codes.specs.Scalars.{size_of, magnitude}
use Rattle.strm_codes.specs.Begins.{flags_limit, left}
use Rattle.strm_codes.specs.Offsets.{gap_before}
use Rattle.strm_codes.specs.ItemTypes.{ItemType, Plain, Flags, Record, Variant, Parts, no_parts, part, count, flags_size, discriminant_size, align_of, item_size, case_offset}
use Rattle.strm_memory.specs.Bytes.{le, to_le}
use Rattle.strm_memory.specs.Numbers.{lifted, lowered}

-- numbers, and others behind them, where both are there
abbrev pub both : Option (List ℤ) → Option (List ℤ) → Option (List ℤ)
both front behind = option_and_then (λ xs. option_map (λ ys. xs ++ ys) behind) front

unfoldable mutual
  -- the numbers of the item at the front; none where it is none
  pub decode : ItemType → List ℕ → Option (List ℤ)
  decode (Plain s) bytes = option_map (λ x. x ∷ []) (lifted s (le (take (size_of s) bytes)))
  decode (Flags n) bytes = Some (pos (le (take (flags_size n) bytes) % flags_limit n) ∷ [])
  decode (Record ps) bytes = decode_parts 0 ps bytes
  decode (Variant ps) bytes =
      let d = le (take (discriminant_size (count ps)) bytes) in
      option_map (λ xs. pos d ∷ xs) (decode_case ps d (drop (case_offset ps) bytes))

  -- those of the fields that may begin at an offset, from the bytes from there on
  pub decode_parts : ℕ → Parts → List ℕ → Option (List ℤ)
  decode_parts at no_parts bytes = Some []
  decode_parts at (part t ps) bytes =
      let gap = gap_before at (align_of t) in
      both (decode t (drop gap bytes)) (decode_parts (at + gap + item_size t) ps (drop (gap + item_size t) bytes))

  -- those of the value of a case, by its number
  pub decode_case : Parts → ℕ → List ℕ → Option (List ℤ)
  decode_case no_parts d bytes = None
  decode_case (part t ps) zero bytes = decode t bytes
  decode_case (part t ps) (suc d) bytes = decode_case ps d bytes

unfoldable mutual
  -- the bytes with the item at their front with which numbers begin, and all else as it was
  pub encode : ItemType → List ℕ → List ℤ → List ℕ
  encode (Plain s) bytes [] = bytes
  encode (Plain s) bytes (x ∷ xs) = to_le (size_of s) (lowered s x) ++ drop (size_of s) bytes
  encode (Flags n) bytes [] = bytes
  encode (Flags n) bytes (x ∷ xs) = to_le (flags_size n) (magnitude x) ++ drop (flags_size n) bytes
  encode (Record ps) bytes xs = encode_parts 0 ps bytes xs
  encode (Variant ps) bytes [] = bytes
  encode (Variant ps) bytes (d ∷ xs) =
      let w = discriminant_size (count ps) in
      to_le w (magnitude d)
      ++ take (case_offset ps - w) (drop w bytes)
      ++ encode_case ps (magnitude d) (drop (case_offset ps) bytes) xs

  -- the same in the fields that may begin at an offset
  pub encode_parts : ℕ → Parts → List ℕ → List ℤ → List ℕ
  encode_parts at no_parts bytes xs = bytes
  encode_parts at (part t ps) bytes xs =
      let gap = gap_before at (align_of t) in
      take gap bytes
      ++ take (item_size t) (encode t (drop gap bytes) xs)
      ++ encode_parts (at + gap + item_size t) ps (drop (gap + item_size t) bytes) (left t xs)

  -- the same of the value of a case
  pub encode_case : Parts → ℕ → List ℕ → List ℤ → List ℕ
  encode_case no_parts d bytes xs = bytes
  encode_case (part t ps) zero bytes xs = encode t bytes xs
  encode_case (part t ps) (suc d) bytes xs = encode_case ps d bytes xs
