-- Where a region of a memory may lie.
-- Canonical ABI, `BufferGuestImpl`; wasmtime, `futures_and_streams.rs`, `check_bounds`. Ours: the
-- bounds are tested before the alignment.
use Rattle.std.specs.Prelude.{ℕ, ◌+◌, ◌*◌, ◌%◌, Bool, ◌&&◌, nat_lt, if◌then◌else◌, Result, Ok, Err}
use Rattle.strm_codes.specs.ItemTypes.{item_size, align_of, ItemType}
use Rattle.strm_memory.specs.declared.memories.RegionError.{RegionError}
use Rattle.strm_memory.specs.declared.memories.RegionError.TheVariants.{OutOfBounds, NotAligned}

-- so many bytes, some at all, from an address on pass the end of a memory of this length
abbrev pub bytes_out_of_bounds : ℕ → ℕ → ℕ → Bool
bytes_out_of_bounds length address n = nat_lt 0 n && nat_lt length (address + n)

-- so many items take bytes
abbrev pub has_bytes : ItemType → ℕ → Bool
has_bytes t count = nat_lt 0 count && nat_lt 0 (item_size t)

-- items that take bytes pass the end of a memory of this length
abbrev pub is_out_of_bounds : ℕ → ItemType → ℕ → ℕ → Bool
is_out_of_bounds length t address count =
    has_bytes t count && nat_lt length (address + item_size t * count)

-- items that take bytes begin at no multiple of their alignment
abbrev pub is_misaligned : ItemType → ℕ → ℕ → Bool
is_misaligned t address count = has_bytes t count && nat_lt 0 (address % align_of t)

-- whether so many items may lie at an address of a memory of this length
abbrev pub region_of : ℕ → ItemType → ℕ → ℕ → Result (Unit {0}) RegionError
region_of length t address count =
    if is_out_of_bounds length t address count then Err OutOfBounds
    else (if is_misaligned t address count then Err NotAligned else Ok tt)
