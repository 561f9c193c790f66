-- How many fields a tuple has, and an item's alignment and size, in one byte (representation only).
-- Ours: the size is one to eight alignments, and the alignment 1, 2, 4 or 8.
use Rattle.std.specs.Prelude.{ℕ, ◌+◌, ◌-◌, ◌*◌, ◌/◌, ◌%◌, ◌^◌, ◌==◌, if◌then◌else◌, List, length}
use Rattle.strm_codes.specs.Fields.{fields_align, fields_size}
use Rattle.strm_codes.specs.declared.scalars.Scalar.{Scalar}

-- the power of two that an alignment is
abbrev pub power_of : ℕ → ℕ
power_of align = if align == 1 then 0 else (if align == 2 then 1 else (if align == 4 then 2 else 3))

-- the byte of a tuple
abbrev pub form_of : List Scalar → ℕ
form_of ss = (length ss - 1) + 8 * power_of (fields_align ss) + 32 * (fields_size ss / fields_align ss - 1)

-- how many fields a byte tells
abbrev pub fields_of : ℕ → ℕ
fields_of form = form % 8 + 1

-- the alignment that it tells
abbrev pub align_in : ℕ → ℕ
align_in form = 2 ^ (form / 8 % 4)

-- the size that it tells
abbrev pub size_in : ℕ → ℕ
size_in form = (form / 32 + 1) * align_in form
