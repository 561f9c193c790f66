-- From an offset to where something can lie.
-- Canonical ABI, "Alignment": `align_to`.
use Rattle.std.specs.Prelude.{ℕ, ◌-◌, ◌%◌}

-- from an offset to the next multiple of a size
abbrev pub gap_before : ℕ → ℕ → ℕ
gap_before at size = (size - at % size) % size
