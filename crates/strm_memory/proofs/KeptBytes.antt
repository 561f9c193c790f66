-- Bytes stay bytes where an item of any type is stored.
use Rattle.std.proofs.Common.{ℕ, zero, suc, ◌+◌, ◌-◌, ◌/◌, ℤ, List, [], ◌∷◌, ◌++◌, take, drop, arith}
use Rattle.strm_codes.specs.Scalars.{size_of, magnitude}
use Rattle.strm_codes.specs.Offsets.{gap_before}
use Rattle.strm_codes.specs.ItemTypes.{ItemType, Plain, Flags, Record, Variant, Parts, no_parts, part, count, flags_size, discriminant_size, align_of, item_size, case_offset}
use Rattle.strm_memory.specs.Bytes.{to_le, IsBytes}
use Rattle.strm_memory.specs.Numbers.{lowered}
use Rattle.strm_codes.specs.Begins.{left}
use Rattle.strm_memory.specs.Loads.{encode, encode_parts, encode_case}
use Rattle.strm_memory.specs.Items.{stored, stored_at}
use Rattle.strm_memory.proofs.ByteLemmas.{IsBytes-drop, IsBytes-take}

pub IsBytes-nil : IsBytes []
IsBytes-nil k = omega arith

pub IsBytes-append : (xs ys : List ℕ) → IsBytes xs → IsBytes ys → IsBytes (xs ++ ys)
IsBytes-append [] ys h g k = g k
IsBytes-append (x ∷ xs) ys h g zero = h 0
IsBytes-append (x ∷ xs) ys h g (suc k) = IsBytes-append xs ys (λ j. h (suc j)) g k

IsBytes-to_le : (width n : ℕ) → IsBytes (to_le width n)
IsBytes-to_le zero n k = omega arith
IsBytes-to_le (suc width) n zero = omega arith
IsBytes-to_le (suc width) n (suc k) = IsBytes-to_le width (n / 256) k

mutual
  unfolding encode

  IsBytes-encode : (t : ItemType) (bytes : List ℕ) (xs : List ℤ) → IsBytes bytes → IsBytes (encode t bytes xs)
  IsBytes-encode (Plain s) bytes [] h = h
  IsBytes-encode (Plain s) bytes (x ∷ xs) h =
      IsBytes-append (to_le (size_of s) (lowered s x)) (drop (size_of s) bytes) (IsBytes-to_le (size_of s) (lowered s x)) (IsBytes-drop bytes (size_of s) h)
  IsBytes-encode (Flags n) bytes [] h = h
  IsBytes-encode (Flags n) bytes (x ∷ xs) h =
      IsBytes-append (to_le (flags_size n) (magnitude x)) (drop (flags_size n) bytes) (IsBytes-to_le (flags_size n) (magnitude x)) (IsBytes-drop bytes (flags_size n) h)
  IsBytes-encode (Record ps) bytes xs h = IsBytes-encode_parts 0 ps bytes xs h
  IsBytes-encode (Variant ps) bytes [] h = h
  IsBytes-encode (Variant ps) bytes (d ∷ xs) h =
      let w = discriminant_size (count ps) in
      let o = case_offset ps in
      let number = to_le w (magnitude d) in
      let padding = take (o - w) (drop w bytes) in
      IsBytes-append (number ++ padding) (encode_case ps (magnitude d) (drop o bytes) xs)
      (IsBytes-append number padding (IsBytes-to_le w (magnitude d)) (IsBytes-take (drop w bytes) (o - w) (IsBytes-drop bytes w h)))
      (IsBytes-encode_case ps (magnitude d) (drop o bytes) xs (IsBytes-drop bytes o h))

  IsBytes-encode_parts : (at : ℕ) (ps : Parts) (bytes : List ℕ) (xs : List ℤ) → IsBytes bytes → IsBytes (encode_parts at ps bytes xs)
  IsBytes-encode_parts at no_parts bytes xs h = h
  IsBytes-encode_parts at (part t ps) bytes xs h =
      let gap = gap_before at (align_of t) in
      let w = item_size t in
      let item = encode t (drop gap bytes) xs in
      IsBytes-append (take gap bytes ++ take w item) (encode_parts (at + gap + w) ps (drop (gap + w) bytes) (left t xs))
      (IsBytes-append (take gap bytes) (take w item) (IsBytes-take bytes gap h) (IsBytes-take item w (IsBytes-encode t (drop gap bytes) xs (IsBytes-drop bytes gap h))))
      (IsBytes-encode_parts (at + gap + w) ps (drop (gap + w) bytes) (left t xs) (IsBytes-drop bytes (gap + w) h))

  IsBytes-encode_case : (ps : Parts) (d : ℕ) (bytes : List ℕ) (xs : List ℤ) → IsBytes bytes → IsBytes (encode_case ps d bytes xs)
  IsBytes-encode_case no_parts d bytes xs h = h
  IsBytes-encode_case (part t ps) zero bytes xs h = IsBytes-encode t bytes xs h
  IsBytes-encode_case (part t ps) (suc d) bytes xs h = IsBytes-encode_case ps d bytes xs h

IsBytes-stored : (t : ItemType) (bytes : List ℕ) (xs : List (List ℤ)) → IsBytes bytes → IsBytes (stored t bytes xs)
unfolding stored
IsBytes-stored t bytes [] h = h
IsBytes-stored t bytes (x ∷ xs) h =
    let item = encode t bytes x in
    let here : IsBytes item = IsBytes-encode t bytes x h in
    IsBytes-append (take (item_size t) item) (stored t (drop (item_size t) item) xs) (IsBytes-take item (item_size t) here)
    (IsBytes-stored t (drop (item_size t) item) xs (IsBytes-drop item (item_size t) here))

pub IsBytes-stored_at : (t : ItemType) (memory : List ℕ) (address : ℕ) (xs : List (List ℤ)) → IsBytes memory → IsBytes (stored_at t memory address xs)
IsBytes-stored_at t memory address xs h =
    IsBytes-append (take address memory) (stored t (drop address memory) xs) (IsBytes-take memory address h) (IsBytes-stored t (drop address memory) xs (IsBytes-drop memory address h))
