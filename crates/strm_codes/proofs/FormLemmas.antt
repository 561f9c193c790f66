-- A tuple's fields, alignment and size, found again in their byte.
use Rattle.std.proofs.Common.{◌≡◌, ℕ, ◌+◌, ◌-◌, ◌*◌, ◌/◌, ◌%◌, ◌≤◌, List, [], ◌∷◌, length, refl, ap, subst, add-zero, ◌∙◌, arith}
use Rattle.std.specs.Prelude.{◌^◌}
use Rattle.strm_codes.specs.Scalars.{size_of}
use Rattle.strm_codes.specs.Fields.{end_offset, fields_align, fields_size}
use Rattle.strm_codes.specs.Offsets.{gap_before}
use Rattle.strm_codes.specs.Forms.{power_of, form_of, fields_of, align_in, size_in}
use Rattle.strm_codes.specs.declared.scalars.Scalar.{Scalar}
use Rattle.strm_codes.proofs.LayoutLemmas.{IsWidth, IsWidth-size_of, IsWidth-fields_align, by_width, le-end_offset}

-- ## A size is one to eight alignments

-- a field no wider than a ends no later than the next multiple of a
abbrev Ends : (a w at n : ℕ) → Type 0
Ends a w at n = at ≤ a * n → w ≤ a → at + gap_before at w + w ≤ a * (n + 1)

in_1 : (w at n : ℕ) → IsWidth w → Ends 1 w at n
in_1 w at n ww = by_width (λ w. Ends 1 w at n) (λ h l. omega arith) (λ h l. omega arith) (λ h l. omega arith) (λ h l. omega arith) w ww

in_2 : (w at n : ℕ) → IsWidth w → Ends 2 w at n
in_2 w at n ww = by_width (λ w. Ends 2 w at n) (λ h l. omega arith) (λ h l. omega arith) (λ h l. omega arith) (λ h l. omega arith) w ww

in_4 : (w at n : ℕ) → IsWidth w → Ends 4 w at n
in_4 w at n ww = by_width (λ w. Ends 4 w at n) (λ h l. omega arith) (λ h l. omega arith) (λ h l. omega arith) (λ h l. omega arith) w ww

in_8 : (w at n : ℕ) → IsWidth w → Ends 8 w at n
in_8 w at n ww = by_width (λ w. Ends 8 w at n) (λ h l. omega arith) (λ h l. omega arith) (λ h l. omega arith) (λ h l. omega arith) w ww

field_ends : (a w at n : ℕ) → IsWidth a → IsWidth w → Ends a w at n
field_ends a w at n aw ww =
    by_width (λ a. Ends a w at n) (in_1 w at n ww) (in_2 w at n ww) (in_4 w at n ww) (in_8 w at n ww) a aw

fields_end : (a at n : ℕ) (ss : List Scalar) → IsWidth a → fields_align ss ≤ a → at ≤ a * n → end_offset at ss ≤ a * (n + length ss)
fields_end a at n [] aw le h = rw (add-zero n) h
fields_end a at n (s ∷ ss) aw le h =
    let first = field_ends a (size_of s) at n aw (IsWidth-size_of s) h (omega arith) in
    let more : n + 1 + length ss ≡ n + length (s ∷ ss) = omega arith in
    subst (λ m. end_offset at (s ∷ ss) ≤ a * m) more (fields_end a (at + gap_before at (size_of s) + size_of s) (n + 1) ss aw (omega arith) first)

width_some : (a : ℕ) → IsWidth a → 1 ≤ a
width_some a w = by_width (λ a. 1 ≤ a) (omega arith) (omega arith) (omega arith) (omega arith) a w

some_bytes : (ss : List Scalar) → 1 ≤ length ss → 1 ≤ end_offset 0 ss
some_bytes [] h = absurd (omega (arith, h))
some_bytes (s ∷ ss) h =
    omega (arith, le-end_offset (0 + gap_before 0 (size_of s) + size_of s) ss, width_some (size_of s) (IsWidth-size_of s))

-- an alignment, and a size that is one to eight of it
record IsMeasured (align size : ℕ) : Type 0 where
  some : 1 ≤ size / align
  most : size / align ≤ 8
  whole : size / align * align ≡ size

measured : (a end : ℕ) → IsWidth a → 1 ≤ end → end ≤ a * 8 → IsMeasured a (end + gap_before end a)
measured a end w some most =
    by_width (λ a. end ≤ a * 8 → IsMeasured a (end + gap_before end a))
    (λ m. record { some = omega arith; most = omega arith; whole = omega arith })
    (λ m. record { some = omega arith; most = omega arith; whole = omega arith })
    (λ m. record { some = omega arith; most = omega arith; whole = omega arith })
    (λ m. record { some = omega arith; most = omega arith; whole = omega arith })
    a w most

IsMeasured-fields_size : (ss : List Scalar) → 1 ≤ length ss → length ss ≤ 8 → IsMeasured (fields_align ss) (fields_size ss)
IsMeasured-fields_size ss some most =
    let a = fields_align ss in
    let w = IsWidth-fields_align ss in
    let end : end_offset 0 ss ≤ a * (0 + length ss) = fields_end a 0 0 ss w (omega arith) (omega arith) in
    let eight : a * length ss ≤ a * 8 = by_width (λ a. a * length ss ≤ a * 8) (omega arith) (omega arith) (omega arith) (omega arith) a w in
    measured a (end_offset 0 ss) w (some_bytes ss some) (omega (arith, end, eight))

-- ## The byte, read

pub power_is : (a : ℕ) → IsWidth a → 2 ^ power_of a ≡ a
power_is a w = by_width (λ a. 2 ^ power_of a ≡ a) refl refl refl refl a w

power-most : (a : ℕ) → IsWidth a → power_of a ≤ 3
power-most a w = by_width (λ a. power_of a ≤ 3) (omega arith) (omega arith) (omega arith) (omega arith) a w

-- what a byte tells that is made of these three
record IsForm (form len power units : ℕ) : Type 0 where
  len_is : form % 8 + 1 ≡ len
  power_is : form / 8 % 4 ≡ power
  units_is : form / 32 + 1 ≡ units

IsForm-of : (len power units : ℕ) → 1 ≤ len → len ≤ 8 → power ≤ 3 → 1 ≤ units → units ≤ 8 → IsForm ((len - 1) + 8 * power + 32 * (units - 1)) len power units
IsForm-of len power units a b c d e = record { len_is = omega arith; power_is = omega arith; units_is = omega arith }

-- of one to eight fields: what stands in their byte
pub record IsRead (ss : List Scalar) : Type 0 where
  pub fields : fields_of (form_of ss) ≡ length ss
  pub align : align_in (form_of ss) ≡ fields_align ss
  pub size : size_in (form_of ss) ≡ fields_size ss

pub IsRead-form_of : (ss : List Scalar) → 1 ≤ length ss → length ss ≤ 8 → IsRead ss
IsRead-form_of ss some most =
    let a = fields_align ss in
    let w = IsWidth-fields_align ss in
    let m = IsMeasured-fields_size ss some most in
    let f = IsForm-of (length ss) (power_of a) (fields_size ss / a) some most (power-most a w) m.some m.most in
    let align : align_in (form_of ss) ≡ a = ap (λ k. 2 ^ k) f.power_is ∙ power_is a w in
    record {
      fields = f.len_is;
      align = align;
      size = ap (λ u. u * align_in (form_of ss)) f.units_is ∙ ap (λ b. fields_size ss / a * b) align ∙ m.whole;
    }

-- the size in alignments, by the code's numbers: from 1 to 8
pub record AreUnits (ss : List Scalar) (size power : ℕ) : Type 0 where
  pub are : size / 2 ^ power ≡ fields_size ss / fields_align ss
  pub some : 1 ≤ size / 2 ^ power
  pub most : size / 2 ^ power ≤ 8

pub AreUnits-fields_size : (ss : List Scalar) (align power size : ℕ) → 1 ≤ length ss → length ss ≤ 8 → align ≡ fields_align ss → power ≡ power_of align → size ≡ fields_size ss → AreUnits ss size power
AreUnits-fields_size ss align power size some most a p s =
    let m = IsMeasured-fields_size ss some most in
    let is : size / 2 ^ power ≡ fields_size ss / fields_align ss = rw (s, p, a, power_is (fields_align ss) (IsWidth-fields_align ss)) refl in
    record { are = is; some = rw is m.some; most = rw is m.most }
