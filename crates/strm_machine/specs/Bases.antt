-- Where the memories of guests lie, of those of which it was told, and which of them an engine lent. wasmtime,
-- `VMMemoryDefinition::base`.
use Rattle.std.specs.Prelude.{◌≡◌, ◌≢◌, ℕ, Bool, List, slice_set, Option, Some}
use Rattle.std.specs.Ptr.{Ptr}
use Rattle.strm_memory.specs.Linear.{Base, is_lent_base, told_at}
use Rattle.strm_machine.specs.State.{Guest, State, guest_in}

-- where a guest's memory lies, once that was told
abbrev pub base_in : List Guest → ℕ → Option Base
base_in guests g = (guest_in guests g).base

-- whether an engine lent a guest's memory
abbrev pub is_lent_in : List Guest → ℕ → Bool
is_lent_in guests g = is_lent_base (base_in guests g)

-- the guests, and somebody was told that the memory of one of them lies there
abbrev pub with_base : List Guest → ℕ → Ptr → List Guest
with_base guests g at =
    slice_set guests g (record (guest_in guests g) { base = Some (told_at (base_in guests g) at) })

-- the state then
abbrev pub with_base_in : State → ℕ → Ptr → State
with_base_in state g at = record state { guests = with_base state.guests g at }

-- each memory of which it was told lies where it lay, and of no other it is told; an engine lent it if it had
abbrev pub BasesStay : List Guest → List Guest → Type 0
BasesStay old new = (g : ℕ) → base_in new g ≡ base_in old g

-- the same, but for that of one guest
abbrev pub BasesStayBut : ℕ → List Guest → List Guest → Type 0
BasesStayBut guest old new = (g : ℕ) → g ≢ guest → base_in new g ≡ base_in old g
