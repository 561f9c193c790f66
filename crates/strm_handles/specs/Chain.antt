-- The free slots of a list of slots, threaded from the one freed last. Ours, as wasmtime's `Slot::Free`.
use Rattle.std.specs.Prelude.{ℕ, zero, suc, ◌+◌, ◌-◌, List, [], ◌∷◌, map, slice_index_or, Option, Some, None, vec_len}
use Rattle.std.specs.Vec.{vec_capacity}
use Rattle.strm_handles.specs.declared.slots.Slot.{Slot}
use Rattle.strm_handles.specs.declared.slots.Slot.TheVariants.{Free, Full}
use Rattle.strm_handles.specs.declared.slots.Slots.TheInside.{Inside}
use Rattle.strm_handles.specs.Handles.{HandlesOf, TableOf, IsTable}

module _ {E : Type 0} where
  -- what a slot stands for
  abbrev pub entry_of : Slot E → Option E
  entry_of (Free next) = None
  entry_of (Full e) = Some e

  -- the index of the slot that was freed before this one
  abbrev pub before : Slot E → ℕ
  before (Free next) = next
  before (Full e) = 0

  -- the slot at an index, and past the end a free one
  abbrev pub slot_at : List (Slot E) → ℕ → Slot E
  slot_at slots i = slice_index_or slots i (Free 0)

  -- the numbers of so many free slots, from the one at an index on; a number is the index and 1
  abbrev pub chain : List (Slot E) → ℕ → ℕ → List ℕ
  chain slots zero i = []
  chain slots (suc n) i = suc i ∷ chain slots n (before (slot_at slots i))

  -- the handles that the slots keep
  abbrev pub handles_in : List (Slot E) → ℕ → ℕ → HandlesOf E
  handles_in slots free first = record { entries = map entry_of slots; freed = chain slots free first }

  -- the table that the slots are
  abbrev pub table_of : Inside E → TableOf E
  table_of t = record {
    handles = handles_in t.slots.items t.free t.first;
    room = vec_capacity t.slots - vec_len t.slots + t.free;
  }

  -- the thread goes through the free slots, each once
  abbrev pub IsThreaded : Inside E → Type 0
  IsThreaded t = IsTable (handles_in t.slots.items t.free t.first)
