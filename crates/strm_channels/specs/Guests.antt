-- The store's guests, seen as the machine's: the room of their tables is no part of them. Ours.
use Rattle.std.specs.Prelude.{◌≡◌, ◌↔◌, ℕ, List, map, sum_by, count_by, slice_index_or, slice_set, Result, OnOk, OnErr, IsErr, IsNone, IsSomeAnd}
use Rattle.strm_codes.specs.Layout.{item_type}
use Rattle.strm_codes.specs.declared.payloads.Payload.{Payload}
use Rattle.strm_memory.specs.Items.{items_at, stored_at}
use Rattle.strm_memory.specs.Linear.{LinearMemory}
use Rattle.strm_memory.specs.declared.copies.BadItem.{BadItem}
use Rattle.strm_codes.specs.declared.codes.TransmitIndex.{TransmitIndex}
use Rattle.strm_codes.specs.declared.codes.TransmitIndex.TheVariants as index
use Rattle.strm_handles.specs.Handles.{Handles, inserted, removed, live_of}
use Rattle.strm_handles.specs.Ends.{without_value, stream_readable_of, stream_writable_of, future_readable_of, future_writable_of}
use Rattle.strm_handles.specs.declared.entries.Entry.TheVariants as entries
use Rattle.strm_handles.specs.declared.errors.HandleError.{HandleError}
use Rattle.strm_waitable_sets.specs.Sets.{least_free, with_new_set, handle_left, without_set}
use Rattle.strm_machine.specs.declared.streams.Side.{Side}
use Rattle.strm_machine.specs.declared.streams.Side.TheVariants.{Writing, Reading}
use Rattle.strm_machine.specs.Making.{end_entry}
use Rattle.strm_machine.specs.State as machine
use Rattle.strm_machine.specs.State.{guest_in, memory_in, sets_in, with_handles, with_memory, with_table}
use Rattle.strm_channels.specs.declared.guests.Guest.{Guest}

-- a guest as the machine's: its memory, what its handles stand for, and its waitable sets
abbrev pub guest_of : Guest → machine.Guest
guest_of g = record { memory = g.memory.bytes; base = g.memory.base; handles = g.table.handles; sets = g.sets }

-- a guest's memory: its bytes, and where they lie, once that was told
abbrev pub linear_in : List machine.Guest → ℕ → LinearMemory
linear_in guests g = record { bytes = memory_in guests g; base = (guest_in guests g).base }

-- the guests with another memory for one of them, which lies elsewhere
abbrev pub with_linear : List machine.Guest → ℕ → LinearMemory → List machine.Guest
with_linear guests g memory =
    slice_set guests g (record (guest_in guests g) { memory = memory.bytes; base = memory.base })

-- the guests, as the machine's
abbrev pub guests_of : List Guest → List machine.Guest
guests_of guests = map guest_of guests

-- how many inserts the table of a guest takes without memory
abbrev pub room_in_table : List Guest → ℕ → ℕ
room_in_table guests g = slice_index_or (map (λ (k : Guest). k.table.room) guests) g 0

-- the live handles of guests together
abbrev pub live_in : List machine.Guest → ℕ
live_in guests = sum_by (λ (g : machine.Guest). live_of g.handles) guests

-- the waitable sets of guests together
abbrev pub sets_among : List machine.Guest → ℕ
sets_among guests = sum_by (λ (g : machine.Guest). count_by (λ there. there) g.sets.there) guests

-- the guests without a handle of one of them, which leaves the set that it is in
abbrev pub without_handle_in : List machine.Guest → ℕ → ℕ → List machine.Guest
without_handle_in guests g handle =
    with_table guests g (removed (guest_in guests g).handles handle) (handle_left (sets_in guests g) handle)

-- the guests with a handle more of one of them, for an end of stream s
abbrev pub with_end_in : List machine.Guest → ℕ → Side → TransmitIndex → ℕ → List machine.Guest
with_end_in guests g side ty s = with_handles guests g (inserted (guest_in guests g).handles (end_entry side ty s))

-- the guests with a handle more of one of them, for the error context of a number
abbrev pub with_context_in : List machine.Guest → ℕ → ℕ → List machine.Guest
with_context_in guests g number =
    with_handles guests g (inserted (guest_in guests g).handles (entries.ErrorContext number))

-- the guests without a handle of one of them, which leads to an error context
abbrev pub without_context_in : List machine.Guest → ℕ → ℕ → List machine.Guest
without_context_in guests g handle = with_handles guests g (removed (guest_in guests g).handles handle)

-- a guest with a set more, under its next handle
abbrev pub with_set_of : machine.Guest → machine.Guest
with_set_of g = record g {
  handles = inserted g.handles (entries.WaitableSet (least_free g.sets));
  sets = with_new_set g.sets;
}

-- the guests with a set more of one of them
abbrev pub with_set_in : List machine.Guest → ℕ → List machine.Guest
with_set_in guests g = slice_set guests g (with_set_of (guest_in guests g))

-- the guests without a set of one of them, and without its handle
abbrev pub without_set_in : List machine.Guest → ℕ → ℕ → ℕ → List machine.Guest
without_set_in guests g handle set =
    with_table guests g (removed (guest_in guests g).handles handle) (without_set (sets_in guests g) set)

-- what a table answers to the removal of an end
abbrev pub removable : Side → TransmitIndex → Handles → ℕ → Result (Unit {0}) HandleError
removable Writing (index.Stream payload) handles handle = without_value (stream_writable_of handles payload handle)
removable Reading (index.Stream payload) handles handle = without_value (stream_readable_of handles payload handle)
removable Writing (index.Future payload) handles handle = without_value (future_writable_of handles payload handle)
removable Reading (index.Future payload) handles handle = without_value (future_readable_of handles payload handle)

-- so many items of a guest's memory are in another guest's, or one of them is bad and nothing has changed
pub record Receives (payload : Payload) (count : ℕ) (before after : List machine.Guest) (from source to target : ℕ) (result : Result (Unit {0}) BadItem) : Type 0 where
  pub ok : OnOk result (IsSomeAnd (items_at (item_type payload) (memory_in before from) source count)
      (λ xs. after ≡ with_memory before to (stored_at (item_type payload) (memory_in before to) target xs)))
  pub bad : IsErr result ↔ IsNone (items_at (item_type payload) (memory_in before from) source count)
  pub err : OnErr result (after ≡ before)
