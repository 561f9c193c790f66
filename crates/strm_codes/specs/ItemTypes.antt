-- The types of items, as trees. Each type of the Component Model that holds no pointer and no handle is
-- one of these: an enum, an option and a result are variants.
-- Canonical ABI, "Despecialization", "Alignment" and "Element Size".
use Rattle.std.specs.Prelude.{ℕ, ◌+◌, max, nat_lt, if◌then◌else◌, List, [], ◌∷◌}
use Rattle.strm_codes.specs.Scalars.{size_of}
use Rattle.strm_codes.specs.Offsets.{gap_before}
use Rattle.strm_codes.specs.declared.scalars.Scalar.{Scalar}

mutual
  -- a scalar, so many flags, a record of fields, or a variant of cases
  pub data ItemType : Type 0 where
    Plain : Scalar → ItemType
    Flags : ℕ → ItemType
    Record : Parts → ItemType
    Variant : Parts → ItemType

  -- the fields of a record, or the cases of a variant; a case without a value is a record of no fields
  pub data Parts : Type 0 where
    no_parts : Parts
    part : ItemType → Parts → Parts

-- how many parts there are
abbrev pub count : Parts → ℕ
count no_parts = 0
count (part t ps) = 1 + count ps

-- the bytes of so many flags, of which there are at most 32
abbrev pub flags_size : ℕ → ℕ
flags_size n = if nat_lt n 9 then 1 else (if nat_lt n 17 then 2 else 4)

-- the bytes of the number of a case, of so many
abbrev pub discriminant_size : ℕ → ℕ
discriminant_size n = if nat_lt n 257 then 1 else (if nat_lt n 65537 then 2 else 4)

-- an offset rounded up to a multiple of a size
abbrev pub rounded : ℕ → ℕ → ℕ
rounded at size = at + gap_before at size

abbrev mutual
  -- the alignment of an item
  pub align_of : ItemType → ℕ
  align_of (Plain s) = size_of s
  align_of (Flags n) = flags_size n
  align_of (Record ps) = most_align ps
  align_of (Variant ps) = max (discriminant_size (count ps)) (most_align ps)

  -- the greatest of the parts' alignments
  pub most_align : Parts → ℕ
  most_align no_parts = 1
  most_align (part t ps) = max (align_of t) (most_align ps)

-- where the value of a case begins
abbrev pub case_offset : Parts → ℕ
case_offset ps = rounded (discriminant_size (count ps)) (most_align ps)

abbrev mutual
  -- the bytes of an item, padding included
  pub item_size : ItemType → ℕ
  item_size (Plain s) = size_of s
  item_size (Flags n) = flags_size n
  item_size (Record ps) = rounded (end_of 0 ps) (most_align ps)
  item_size (Variant ps) = rounded (case_offset ps + most_size ps) (max (discriminant_size (count ps)) (most_align ps))

  -- where fields end, the first of which may begin at an offset
  pub end_of : ℕ → Parts → ℕ
  end_of at no_parts = at
  end_of at (part t ps) = end_of (rounded at (align_of t) + item_size t) ps

  -- the greatest of the parts' sizes
  pub most_size : Parts → ℕ
  most_size no_parts = 0
  most_size (part t ps) = max (item_size t) (most_size ps)

-- scalars as the fields of a record
abbrev pub fields : List Scalar → Parts
fields [] = no_parts
fields (s ∷ ss) = part (Plain s) (fields ss)

-- the type of an item of these fields
abbrev pub fields_type : List Scalar → ItemType
fields_type ss = Record (fields ss)
