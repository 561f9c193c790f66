-- A guest's memory as its calls see it. WebAssembly's linear memory; wasmtime, `VMMemoryDefinition`.
use Rattle.std.specs.Prelude.{ℕ, Bool, true, false, if◌then◌else◌, List, Option, Some, None}
use Rattle.std.specs.Ptr.{Ptr}

-- where the first byte of a memory lies, which was told, and whether an engine lent the bytes: they are no
-- part of the store then
pub record Base : Type 0 where
  pub at : Ptr
  pub is_lent : Bool

-- its bytes, and where the first of them lies, once that was told
pub record LinearMemory : Type 0 where
  pub bytes : List ℕ
  pub base : Option Base

-- a memory of these bytes of which nobody was told where they lie
abbrev pub untold : List ℕ → LinearMemory
untold bytes = record { bytes = bytes; base = None }

-- bytes of the store's own lie there
abbrev pub own_at : Ptr → Base
own_at at = record { at = at; is_lent = false }

-- bytes that an engine lent lie there
abbrev pub lent_at : Ptr → Base
lent_at at = record { at = at; is_lent = true }

-- a memory of these bytes, which an engine lent, and which lie there
abbrev pub of_engine : List ℕ → Ptr → LinearMemory
of_engine bytes at = record { bytes = bytes; base = Some (lent_at at) }

-- whether an engine lent the bytes: of these it is told from the start where they lie
abbrev pub is_lent_base : Option Base → Bool
is_lent_base None = false
is_lent_base (Some base) = base.is_lent

-- where a memory lies once that is told; whose the bytes are stays
abbrev pub told_at : Option Base → Ptr → Base
told_at base at = record { at = at; is_lent = is_lent_base base }

-- how many of so many bytes are the store's own
abbrev pub own_part : Option Base → ℕ → ℕ
own_part None size = size
own_part (Some base) size = if base.is_lent then 0 else size

-- the memory with other bytes in the same place
abbrev pub with_contents : LinearMemory → List ℕ → LinearMemory
with_contents memory bytes = record memory { bytes = bytes }
