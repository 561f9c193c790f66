-- The offsets of an item's fields stay small, and an alignment is 1, 2, 4 or 8.
use Rattle.std.proofs.Common.{◌≡◌, ℕ, ◌+◌, ◌-◌, ◌*◌, ◌%◌, ◌≤◌, max, nat_lt, if◌then◌else◌, Bool, true, false, List, [], ◌∷◌, length, ◌⊎◌, inl, inr, refl, sym, subst, arith, bit_and}
use Rattle.std.proofs.lemmas.Bool.{cases_lt}
use Rattle.std.proofs.lemmas.Nat.{and_mask}
use Rattle.strm_codes.specs.Scalars.{size_of}
use Rattle.strm_codes.specs.ItemTypes.{ItemType, Plain, Flags, Record, Variant, Parts, no_parts, part, count, flags_size, discriminant_size, align_of, most_align}
use Rattle.strm_codes.specs.Fields.{end_offset, fields_align, fields_size}
use Rattle.strm_codes.specs.Offsets.{gap_before}
use Rattle.strm_codes.specs.declared.scalars.Scalar.{Scalar}
use Rattle.strm_codes.specs.declared.scalars.Scalar.TheVariants.{Bool as Flag, S8, U8, S16, U16, S32, U32, S64, U64, Char, F32, F64}

-- the sizes and alignments that there are
abbrev pub IsWidth : ℕ → Type 0
IsWidth a = (a ≡ 1) ⊎ ((a ≡ 2) ⊎ ((a ≡ 4) ⊎ (a ≡ 8)))

pub IsWidth-size_of : (s : Scalar) → IsWidth (size_of s)
IsWidth-size_of Flag = inl refl
IsWidth-size_of S8 = inl refl
IsWidth-size_of U8 = inl refl
IsWidth-size_of S16 = inr (inl refl)
IsWidth-size_of U16 = inr (inl refl)
IsWidth-size_of S32 = inr (inr (inl refl))
IsWidth-size_of U32 = inr (inr (inl refl))
IsWidth-size_of S64 = inr (inr (inr refl))
IsWidth-size_of U64 = inr (inr (inr refl))
IsWidth-size_of Char = inr (inr (inl refl))
IsWidth-size_of F32 = inr (inr (inl refl))
IsWidth-size_of F64 = inr (inr (inr refl))

max-or : (a b : ℕ) → (max a b ≡ a) ⊎ (max a b ≡ b)
max-or a b = elim (cases_lt a b) [ inl h ↦ inr (omega arith) | inr h ↦ inl (omega arith) ]

pub IsWidth-fields_align : (ss : List Scalar) → IsWidth (fields_align ss)
IsWidth-fields_align [] = inl refl
IsWidth-fields_align (s ∷ ss) =
    elim (max-or (size_of s) (fields_align ss)) [
      | inl e ↦ rw e (IsWidth-size_of s)
      | inr e ↦ rw e (IsWidth-fields_align ss)
    ]

IsWidth-flags_size : (n : ℕ) → IsWidth (flags_size n)
IsWidth-flags_size n = chosen (nat_lt n 9) (nat_lt n 17)
  where
    chosen : (a b : Bool) → IsWidth (if a then 1 else (if b then 2 else 4))
    chosen true b = inl refl
    chosen false true = inr (inl refl)
    chosen false false = inr (inr (inl refl))

IsWidth-discriminant_size : (n : ℕ) → IsWidth (discriminant_size n)
IsWidth-discriminant_size n = chosen (nat_lt n 257) (nat_lt n 65537)
  where
    chosen : (a b : Bool) → IsWidth (if a then 1 else (if b then 2 else 4))
    chosen true b = inl refl
    chosen false true = inr (inl refl)
    chosen false false = inr (inr (inl refl))

IsWidth-max : (a b : ℕ) → IsWidth a → IsWidth b → IsWidth (max a b)
IsWidth-max a b u v = elim (max-or a b) [ inl e ↦ rw e u | inr e ↦ rw e v ]

mutual
  pub IsWidth-align_of : (t : ItemType) → IsWidth (align_of t)
  IsWidth-align_of (Plain s) = IsWidth-size_of s
  IsWidth-align_of (Flags n) = IsWidth-flags_size n
  IsWidth-align_of (Record ps) = IsWidth-most_align ps
  IsWidth-align_of (Variant ps) = IsWidth-max (discriminant_size (count ps)) (most_align ps) (IsWidth-discriminant_size (count ps)) (IsWidth-most_align ps)

  pub IsWidth-most_align : (ps : Parts) → IsWidth (most_align ps)
  IsWidth-most_align no_parts = inl refl
  IsWidth-most_align (part t ps) = IsWidth-max (align_of t) (most_align ps) (IsWidth-align_of t) (IsWidth-most_align ps)

pub by_width : (P : ℕ → Type 0) → P 1 → P 2 → P 4 → P 8 → (a : ℕ) → IsWidth a → P a
by_width P one two four eight a w =
    elim w [
      | inl e ↦ subst P (sym e) one
      | inr v ↦ elim v [
        | inl e ↦ subst P (sym e) two
        | inr u ↦ elim u [
          | inl e ↦ subst P (sym e) four
          | inr e ↦ subst P (sym e) eight
        ]
      ]
    ]

-- a multiple of 8 is a multiple of each width
pub gap_within : (a at n : ℕ) → IsWidth a → at ≤ 8 * n → at + gap_before at a ≤ 8 * n
gap_within a at n w h =
    by_width (λ a. at + gap_before at a ≤ 8 * n) (omega arith) (omega arith) (omega arith) (omega arith) a w

width_most : (a : ℕ) → IsWidth a → a ≤ 8
width_most a w = by_width (λ a. a ≤ 8) (omega arith) (omega arith) (omega arith) (omega arith) a w

pub field_within : (s : Scalar) (at n : ℕ) → at ≤ 8 * n → at + gap_before at (size_of s) + size_of s ≤ 8 * (n + 1)
field_within s at n h = omega (arith, gap_within (size_of s) at n (IsWidth-size_of s) h, width_most (size_of s) (IsWidth-size_of s))

fields_within : (at n : ℕ) (ss : List Scalar) → at ≤ 8 * n → end_offset at ss ≤ 8 * (n + length ss)
fields_within at n [] h = omega (arith, h)
fields_within at n (s ∷ ss) h =
    omega (arith, fields_within (at + gap_before at (size_of s) + size_of s) (n + 1) ss (field_within s at n h))

-- an item of at most eight fields has at most 64 bytes
pub fields_size-most : (ss : List Scalar) → length ss ≤ 8 → fields_size ss ≤ 64
fields_size-most ss h =
    let ends : end_offset 0 ss ≤ 8 * length ss = omega (arith, fields_within 0 0 ss (omega arith)) in
    omega (arith, h, gap_within (fields_align ss) (end_offset 0 ss) (length ss) (IsWidth-fields_align ss) ends)

pub one-le-fields_align : (ss : List Scalar) → 1 ≤ fields_align ss
one-le-fields_align [] = omega arith
one-le-fields_align (s ∷ ss) = omega (arith, one-le-fields_align ss)

pub le-end_offset : (at : ℕ) (ss : List Scalar) → at ≤ end_offset at ss
le-end_offset at [] = omega arith
le-end_offset at (s ∷ ss) = omega (arith, le-end_offset (at + gap_before at (size_of s) + size_of s) ss)

-- an address masked by an alignment is what it leaves
mask_is_mod : (n a : ℕ) → IsWidth a → bit_and n (a - 1) ≡ n % a
mask_is_mod n a w =
    by_width (λ a. bit_and n (a - 1) ≡ n % a) (and_mask n 0) (and_mask n 1) (and_mask n 2) (and_mask n 3) a w

pub align_mask : (n : ℕ) (t : ItemType) → bit_and n (align_of t - 1) ≡ n % align_of t
align_mask n t = mask_is_mod n (align_of t) (IsWidth-align_of t)

pub align_of-most : (t : ItemType) → align_of t ≤ 8
align_of-most t = width_most (align_of t) (IsWidth-align_of t)

pub one-le-align_of : (t : ItemType) → 1 ≤ align_of t
one-le-align_of t = by_width (λ a. 1 ≤ a) (omega arith) (omega arith) (omega arith) (omega arith) (align_of t) (IsWidth-align_of t)
