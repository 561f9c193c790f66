-- The scalars: their sizes, and the numbers that are items of each.
-- Canonical ABI, "Alignment", "Element Size" and "Loading".
use Rattle.std.specs.Prelude.{ℕ, ◌^◌, ℤ, pos, neg_ℤ, ◌≤ℤ◌, ◌<ℤ◌, Bool, true, false, ◌&&◌, ◌||◌, nat_lt, IsTrue}
use Rattle.strm_codes.specs.declared.scalars.Scalar.{Scalar}
use Rattle.strm_codes.specs.declared.scalars.Scalar.TheVariants.{Bool as Flag, S8, U8, S16, U16, S32, U32, S64, U64, Char, F32, F64}

-- the bytes that one takes, which is its alignment too
abbrev pub size_of : Scalar → ℕ
size_of Flag = 1
size_of S8 = 1
size_of U8 = 1
size_of S16 = 2
size_of U16 = 2
size_of S32 = 4
size_of U32 = 4
size_of S64 = 8
size_of U64 = 8
size_of Char = 4
size_of F32 = 4
size_of F64 = 8

-- a whole number or a float: every pattern of its bytes is an item, and stays as it is
abbrev pub is_numeric : Scalar → Bool
is_numeric Flag = false
is_numeric Char = false
is_numeric _ = true

-- a Unicode scalar value
abbrev pub is_scalar_value : ℕ → Bool
is_scalar_value n = nat_lt n 0xD800 || (nat_lt 0xDFFF n && nat_lt n 0x110000)

-- from 0 to below a limit
abbrev pub IsBelow : ℕ → ℤ → Type 0
IsBelow limit x = (pos 0 ≤ℤ x) × (x <ℤ pos limit)

-- from -half to below half
abbrev pub IsSignedBelow : ℕ → ℤ → Type 0
IsSignedBelow half x = (neg_ℤ (pos half) ≤ℤ x) × (x <ℤ pos half)

-- the number as it is, 0 for one below 0
abbrev pub magnitude : ℤ → ℕ
magnitude (pos n) = n
magnitude _ = 0

-- the numbers that are items of a scalar; a float's is the one that its bits spell, so no NaN is another's
abbrev pub FitsScalar : Scalar → ℤ → Type 0
FitsScalar Flag x = IsBelow 2 x
FitsScalar S8 x = IsSignedBelow (2 ^ 7) x
FitsScalar U8 x = IsBelow (2 ^ 8) x
FitsScalar S16 x = IsSignedBelow (2 ^ 15) x
FitsScalar U16 x = IsBelow (2 ^ 16) x
FitsScalar S32 x = IsSignedBelow (2 ^ 31) x
FitsScalar U32 x = IsBelow (2 ^ 32) x
FitsScalar S64 x = IsSignedBelow (2 ^ 63) x
FitsScalar U64 x = IsBelow (2 ^ 64) x
FitsScalar Char x = IsBelow (2 ^ 32) x × IsTrue (is_scalar_value (magnitude x))
FitsScalar F32 x = IsBelow (2 ^ 32) x
FitsScalar F64 x = IsBelow (2 ^ 64) x
