-- Which numbers begin with an item, by the first of them.
use Rattle.std.proofs.Common.{◌≡◌, ℕ, zero, suc, ◌^◌, ◌<◌, ◌≤◌, ℤ, pos, negsuc, List, [], ◌∷◌, length, drop, get_or, refl, sym, subst, ap, arith}
use Rattle.std.proofs.lemmas.Int.{ints}
use Rattle.std.proofs.lemmas.Bool.{lt-ltb}
use Rattle.strm_codes.specs.Scalars.{FitsScalar, IsBelow, magnitude}
use Rattle.strm_codes.specs.declared.scalars.Scalar.{Scalar}
use Rattle.strm_codes.specs.ItemTypes.{ItemType, Plain, Flags, Variant, Parts, count, discriminant_size}
use Rattle.strm_codes.specs.Spellings.{units, taken}
use Rattle.strm_codes.specs.Begins.{flags_limit, discriminant_limit, left_fields, left_case, Begins, BeginFields, BeginsCase}
use Rattle.strm_codes.proofs.SpellingLemmas.{count-units, count-taken}

pub one_byte : (n : ℕ) → n ≤ 256 → discriminant_size n ≡ 1
one_byte n h = rw (lt-ltb n 257 (omega (arith, h))) refl

-- ## The cases of a variant

pub left_case-taken : (n d : ℕ) (ts : List ItemType) (xs : List ℤ) → d < n → n ≤ length ts → left_case (taken n ts) d xs ≡ left_fields (taken 1 (drop d ts)) xs
left_case-taken zero d ts xs h l = absurd (omega arith)
left_case-taken (suc n) d [] xs h l = absurd (omega arith)
left_case-taken (suc n) zero (t ∷ ts) xs h l = refl
left_case-taken (suc n) (suc d) (t ∷ ts) xs h l = left_case-taken n d ts xs (omega (arith, h)) (omega (arith, l))

pub left_case-units : (n d : ℕ) (xs : List ℤ) → left_case (units n) d xs ≡ xs
left_case-units zero d xs = refl
left_case-units (suc n) zero xs = refl
left_case-units (suc n) (suc d) xs = left_case-units n d xs

-- a case that the numbers begin with is one of so many
pub record IsCase (n d : ℕ) (ts : List ItemType) (xs : List ℤ) : Type 0 where
  pub there : d < n
  pub begins : BeginFields (taken 1 (drop d ts)) xs

pub case-taken : (n d : ℕ) (ts : List ItemType) (xs : List ℤ) → n ≤ length ts → BeginsCase (taken n ts) d xs → IsCase n d ts xs
case-taken zero d ts xs l b = absurd b
case-taken (suc n) d [] xs l b = absurd (omega arith)
case-taken (suc n) zero (t ∷ ts) xs l b = record { there = omega arith; begins = (b, tt) }
case-taken (suc n) (suc d) (t ∷ ts) xs l b =
    let c = case-taken n d ts xs (omega (arith, l)) b in
    record { there = omega (arith, c.there); begins = c.begins }

-- what a variant's numbers begin with: its case, which has a byte
pub record HasCase (ps : Parts) (xs : List ℤ) (d : ℕ) : Type 0 where
  pub is : get_or xs 0 (pos 0) ≡ pos d
  pub whole : xs ≡ pos d ∷ drop 1 xs
  pub small : d < 256
  pub value : BeginsCase ps d (drop 1 xs)

pub has_case : (ps : Parts) (xs : List ℤ) → count ps ≤ 256 → Begins (Variant ps) xs → HasCase ps xs (magnitude (get_or xs 0 (pos 0)))
has_case ps [] few b = absurd b
has_case ps (pos d ∷ xs) few b =
    let limit : discriminant_limit ps ≡ 256 = ap (λ w. 256 ^ w) (one_byte (count ps) few) in
    record { is = refl; whole = refl; small = omega (arith, ints, b.0.1, limit); value = b.1 }
has_case ps (negsuc d ∷ xs) few b = absurd (omega (arith, ints, b.0.0))

-- the number that such a type begins with is there
pub plain_there : (s : Scalar) (xs : List ℤ) → Begins (Plain s) xs → (0 < length xs) × FitsScalar s (get_or xs 0 (pos 0))
plain_there s [] b = absurd b
plain_there s (x ∷ xs) b = (omega arith, b)

pub some_number : (ps : Parts) (xs : List ℤ) → Begins (Variant ps) xs → 0 < length xs
some_number ps [] b = absurd b
some_number ps (x ∷ xs) b = omega arith

pub flags_there : (n : ℕ) (xs : List ℤ) → Begins (Flags n) xs → (0 < length xs) × IsBelow (flags_limit n) (get_or xs 0 (pos 0))
flags_there n [] b = absurd b
flags_there n (x ∷ xs) b = (omega arith, b)

units_case : (n d : ℕ) (xs : List ℤ) → BeginsCase (units n) d xs → d < n
units_case zero d xs b = absurd b
units_case (suc n) zero xs b = omega arith
units_case (suc n) (suc d) xs b = omega (arith, units_case n d xs b)

pub below_is : (limit n : ℕ) → n < limit → IsBelow limit (pos n)
below_is limit n h = (omega (arith, ints), omega (arith, ints))

pub enum_there : (n : ℕ) (xs : List ℤ) → n ≤ 256 → Begins (Variant (units n)) xs → IsBelow n (get_or xs 0 (pos 0))
enum_there n xs few b =
    let d = magnitude (get_or xs 0 (pos 0)) in
    let c = has_case (units n) xs (omega (arith, count-units n, few)) b in
    subst (IsBelow n) (sym c.is) (below_is n d (units_case n d (drop 1 xs) c.value))

pub case_there : (n : ℕ) (ts : List ItemType) (xs : List ℤ) → n ≤ 256 → n ≤ length ts → Begins (Variant (taken n ts)) xs → IsBelow n (get_or xs 0 (pos 0))
case_there n ts xs few l b =
    let d = magnitude (get_or xs 0 (pos 0)) in
    let c = has_case (taken n ts) xs (omega (arith, count-taken n ts l, few)) b in
    subst (IsBelow n) (sym c.is) (below_is n d (case-taken n d ts (drop 1 xs) l c.value).there)
