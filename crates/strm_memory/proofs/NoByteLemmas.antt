-- Items that take no bytes: they are there whatever the bytes are, have no numbers, and leave all as it is.
use Rattle.std.proofs.Common.{◌≡◌, ℕ, zero, suc, ◌+◌, ◌≤◌, max, ℤ, List, [], ◌∷◌, ◌++◌, take, drop, Option, Some, None, inl, inr, refl, sym, ap, ◌∙◌, arith}
use Rattle.std.proofs.lemmas.Bool.{lt-ltb, le-ltb, cases_lt}
use Rattle.std.proofs.lemmas.List.{take-append-drop}
use Rattle.std.specs.Prelude.{IsSome}
use Rattle.std.specs.Option.{option_map}
use Rattle.strm_codes.specs.Scalars.{size_of}
use Rattle.strm_codes.specs.Offsets.{gap_before}
use Rattle.strm_codes.specs.declared.scalars.Scalar.{Scalar}
use Rattle.strm_codes.proofs.LayoutLemmas.{IsWidth-size_of}
use Rattle.strm_codes.specs.ItemTypes.{ItemType, Plain, Flags, Record, Variant, Parts, no_parts, part, count, flags_size, discriminant_size, rounded, align_of, most_align, item_size, end_of, most_size}
use Rattle.strm_codes.specs.Begins.{left, left_fields, FitsItem}
use Rattle.strm_memory.specs.Loads.{decode, decode_parts, encode, encode_parts}
use Rattle.strm_memory.specs.Items.{items, stored, stored_at}
use Rattle.strm_memory.proofs.LoadLemmas.{le-end_of}

scalar_byte : (s : Scalar) → 1 ≤ size_of s
scalar_byte s = elim (IsWidth-size_of s) [ inl e ↦ omega arith | inr v ↦ elim v [ inl e ↦ omega arith | inr u ↦ elim u [ inl e ↦ omega arith | inr e ↦ omega arith ] ] ]

flags_byte : (n : ℕ) → 1 ≤ flags_size n
flags_byte n =
    elim (cases_lt n 9) [
      | inl a ↦ rw (lt-ltb n 9 a) (omega arith)
      | inr a ↦ elim (cases_lt n 17) [
        | inl b ↦ rw (le-ltb n 9 a, lt-ltb n 17 b) (omega arith)
        | inr b ↦ rw (le-ltb n 9 a, le-ltb n 17 b) (omega arith)
      ]
    ]

number_byte : (n : ℕ) → 1 ≤ discriminant_size n
number_byte n =
    elim (cases_lt n 257) [
      | inl a ↦ rw (lt-ltb n 257 a) (omega arith)
      | inr a ↦ elim (cases_lt n 65537) [
        | inl b ↦ rw (le-ltb n 257 a, lt-ltb n 65537 b) (omega arith)
        | inr b ↦ rw (le-ltb n 257 a, le-ltb n 65537 b) (omega arith)
      ]
    ]

variant_byte : (w most_align most_size : ℕ) → 1 ≤ w → rounded (rounded w most_align + most_size) (max w most_align) ≡ 0 → ⊥
variant_byte w a m h e = omega (arith, h, e)

ends_at_once : (end a : ℕ) → rounded end a ≡ 0 → end ≡ 0
ends_at_once end a e = omega (arith, e)

-- the first of fields that end where they begin takes nothing, and so do those behind it
record EndsAtOnce (t : ItemType) (ps : Parts) (at : ℕ) : Type 0 where
  gap : gap_before at (align_of t) ≡ 0
  own : item_size t ≡ 0
  others : end_of (at + gap_before at (align_of t) + item_size t) ps ≡ at + gap_before at (align_of t) + item_size t

first_ends : (t : ItemType) (ps : Parts) (at : ℕ) → end_of at (part t ps) ≡ at → EndsAtOnce t ps at
first_ends t ps at e =
    let past = le-end_of (at + gap_before at (align_of t) + item_size t) ps in
    record { gap = omega (arith, e, past); own = omega (arith, e, past); others = omega (arith, e, past) }

mutual
  unfolding decode

  pub decode-no_bytes : (t : ItemType) (bytes : List ℕ) → item_size t ≡ 0 → decode t bytes ≡ Some []
  decode-no_bytes (Plain s) bytes e = absurd (omega (arith, scalar_byte s, e))
  decode-no_bytes (Flags n) bytes e = absurd (omega (arith, flags_byte n, e))
  decode-no_bytes (Record ps) bytes e = decode_parts-no_bytes 0 ps bytes (ends_at_once (end_of 0 ps) (most_align ps) e)
  decode-no_bytes (Variant ps) bytes e = absurd (variant_byte (discriminant_size (count ps)) (most_align ps) (most_size ps) (number_byte (count ps)) e)

  decode_parts-no_bytes : (at : ℕ) (ps : Parts) (bytes : List ℕ) → end_of at ps ≡ at → decode_parts at ps bytes ≡ Some []
  decode_parts-no_bytes at no_parts bytes e = refl
  decode_parts-no_bytes at (part t ps) bytes e =
      let f = first_ends t ps at e in
      let gap = gap_before at (align_of t) in
      rw (decode-no_bytes t (drop gap bytes) f.own, decode_parts-no_bytes (at + gap + item_size t) ps (drop (gap + item_size t) bytes) f.others) refl

mutual
  pub left-no_bytes : (t : ItemType) (xs : List ℤ) → item_size t ≡ 0 → left t xs ≡ xs
  left-no_bytes (Plain s) xs e = absurd (omega (arith, scalar_byte s, e))
  left-no_bytes (Flags n) xs e = absurd (omega (arith, flags_byte n, e))
  left-no_bytes (Record ps) xs e = left_fields-no_bytes 0 ps xs (ends_at_once (end_of 0 ps) (most_align ps) e)
  left-no_bytes (Variant ps) xs e = absurd (variant_byte (discriminant_size (count ps)) (most_align ps) (most_size ps) (number_byte (count ps)) e)

  left_fields-no_bytes : (at : ℕ) (ps : Parts) (xs : List ℤ) → end_of at ps ≡ at → left_fields ps xs ≡ xs
  left_fields-no_bytes at no_parts xs e = refl
  left_fields-no_bytes at (part t ps) xs e =
      let f = first_ends t ps at e in
      ap (left_fields ps) (left-no_bytes t xs f.own) ∙ left_fields-no_bytes (at + gap_before at (align_of t) + item_size t) ps xs f.others

mutual
  unfolding encode

  pub encode-no_bytes : (t : ItemType) (bytes : List ℕ) (xs : List ℤ) → item_size t ≡ 0 → encode t bytes xs ≡ bytes
  encode-no_bytes (Plain s) bytes xs e = absurd (omega (arith, scalar_byte s, e))
  encode-no_bytes (Flags n) bytes xs e = absurd (omega (arith, flags_byte n, e))
  encode-no_bytes (Record ps) bytes xs e = encode_parts-no_bytes 0 ps bytes xs (ends_at_once (end_of 0 ps) (most_align ps) e)
  encode-no_bytes (Variant ps) bytes xs e = absurd (variant_byte (discriminant_size (count ps)) (most_align ps) (most_size ps) (number_byte (count ps)) e)

  encode_parts-no_bytes : (at : ℕ) (ps : Parts) (bytes : List ℕ) (xs : List ℤ) → end_of at ps ≡ at → encode_parts at ps bytes xs ≡ bytes
  encode_parts-no_bytes at no_parts bytes xs e = refl
  encode_parts-no_bytes at (part t ps) bytes xs e =
      let f = first_ends t ps at e in
      let gap = gap_before at (align_of t) in
      let z : gap + item_size t ≡ 0 = omega (arith, f.gap, f.own) in
      let rest : encode_parts (at + gap + item_size t) ps (drop (gap + item_size t) bytes) (left t xs) ≡ bytes =
      encode_parts-no_bytes (at + gap + item_size t) ps (drop (gap + item_size t) bytes) (left t xs) f.others ∙ ap (λ k. drop k bytes) z in
      ap (λ l. take gap bytes ++ take (item_size t) (encode t (drop gap bytes) xs) ++ l) rest
      ∙ ap (λ k. take k bytes ++ take (item_size t) (encode t (drop gap bytes) xs) ++ bytes) f.gap
      ∙ ap (λ k. take 0 bytes ++ take k (encode t (drop gap bytes) xs) ++ bytes) f.own

pub no_numbers : (t : ItemType) (xs : List ℤ) → item_size t ≡ 0 → FitsItem t xs → xs ≡ []
no_numbers t xs e i = sym (left-no_bytes t xs e) ∙ i.all

pub items-no_bytes : (t : ItemType) (a b : List ℕ) (n : ℕ) → item_size t ≡ 0 → items t a n ≡ items t b n
unfolding items
items-no_bytes t a b zero e = refl
items-no_bytes t a b (suc n) e =
    rw (decode-no_bytes t a e, decode-no_bytes t b e, items-no_bytes t (drop (item_size t) a) (drop (item_size t) b) n e) refl

one_more : (o : Option (List (List ℤ))) → IsSome o → IsSome (option_map (λ xs. [] ∷ xs) o)
one_more None k = cc
one_more (Some xs) k = refl

pub some_items-no_bytes : (t : ItemType) (bytes : List ℕ) (n : ℕ) → item_size t ≡ 0 → IsSome (items t bytes n)
unfolding items
some_items-no_bytes t bytes zero e = refl
some_items-no_bytes t bytes (suc n) e =
    rw (decode-no_bytes t bytes e) (one_more (items t (drop (item_size t) bytes) n) (some_items-no_bytes t (drop (item_size t) bytes) n e))

pub stored-no_bytes : (t : ItemType) (bytes : List ℕ) (xs : List (List ℤ)) → item_size t ≡ 0 → stored t bytes xs ≡ bytes
unfolding stored
stored-no_bytes t bytes [] e = refl
stored-no_bytes t bytes (x ∷ xs) e =
    let item = encode t bytes x in
    ap (λ l. take (item_size t) item ++ l) (stored-no_bytes t (drop (item_size t) item) xs e) ∙ take-append-drop (item_size t) item ∙ encode-no_bytes t bytes x e

pub stored_at-no_bytes : (t : ItemType) (memory : List ℕ) (address : ℕ) (xs : List (List ℤ)) → item_size t ≡ 0 → stored_at t memory address xs ≡ memory
stored_at-no_bytes t memory address xs e = ap (λ l. take address memory ++ l) (stored-no_bytes t (drop address memory) xs e) ∙ take-append-drop address memory
