-- Which numbers are an item: those of its fields in order, and of a variant the number of its case and then
-- those of its value.
-- Canonical ABI, "Loading" and "Storing": `load_record`, `load_variant`, `load_flags`.
use Rattle.std.specs.Prelude.{◌≡◌, ℕ, zero, suc, ◌^◌, min, ℤ, List, [], ◌∷◌, drop}
use Rattle.strm_codes.specs.Scalars.{FitsScalar, IsBelow, magnitude}
use Rattle.strm_codes.specs.ItemTypes.{ItemType, Plain, Flags, Record, Variant, Parts, no_parts, part, count, discriminant_size}

-- the first number that is no set of so many flags
abbrev pub flags_limit : ℕ → ℕ
flags_limit n = 2 ^ min n 32

-- the first number that is no discriminant by its bytes
abbrev pub discriminant_limit : Parts → ℕ
discriminant_limit ps = 256 ^ discriminant_size (count ps)

abbrev mutual
  -- the numbers behind those of the item with which they begin
  pub left : ItemType → List ℤ → List ℤ
  left (Plain s) xs = drop 1 xs
  left (Flags n) xs = drop 1 xs
  left (Record ps) xs = left_fields ps xs
  left (Variant ps) [] = []
  left (Variant ps) (d ∷ xs) = left_case ps (magnitude d) xs

  -- the same behind all fields
  pub left_fields : Parts → List ℤ → List ℤ
  left_fields no_parts xs = xs
  left_fields (part t ps) xs = left_fields ps (left t xs)

  -- the same behind the value of a case, by its number
  pub left_case : Parts → ℕ → List ℤ → List ℤ
  left_case no_parts d xs = xs
  left_case (part t ps) zero xs = left t xs
  left_case (part t ps) (suc d) xs = left_case ps d xs

abbrev mutual
  -- the numbers begin with an item
  pub Begins : ItemType → List ℤ → Type 0
  Begins (Plain s) [] = ⊥
  Begins (Plain s) (x ∷ xs) = FitsScalar s x
  Begins (Flags n) [] = ⊥
  Begins (Flags n) (x ∷ xs) = IsBelow (flags_limit n) x
  Begins (Record ps) xs = BeginFields ps xs
  Begins (Variant ps) [] = ⊥
  Begins (Variant ps) (d ∷ xs) = IsBelow (discriminant_limit ps) d × BeginsCase ps (magnitude d) xs

  -- they begin with all fields
  pub BeginFields : Parts → List ℤ → Type 0
  BeginFields no_parts xs = Unit {0}
  BeginFields (part t ps) xs = Begins t xs × BeginFields ps (left t xs)

  -- they begin with the value of a case, by its number
  pub BeginsCase : Parts → ℕ → List ℤ → Type 0
  BeginsCase no_parts d xs = ⊥
  BeginsCase (part t ps) zero xs = Begins t xs
  BeginsCase (part t ps) (suc d) xs = BeginsCase ps d xs

-- the numbers are an item
pub record FitsItem (t : ItemType) (xs : List ℤ) : Type 0 where
  pub begins : Begins t xs
  pub all : left t xs ≡ []
