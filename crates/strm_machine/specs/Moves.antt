-- Ends that change their owner: a handle freed, a handle given, and the stream with another owner for
-- an end.
-- Canonical ABI, `lift_stream` and `lower_stream` with those of futures; wasmtime, `lift_from_index`
-- and `lower_to_index` of readers. Ours: a transfer as one step.
use Rattle.std.specs.Prelude.{ℕ}
use Rattle.strm_codes.specs.declared.codes.TransmitIndex.{TransmitIndex}
use Rattle.strm_handles.specs.Handles.{next_index, inserted, removed}
use Rattle.strm_waitable_sets.specs.Sets.{handle_left}
use Rattle.strm_machine.specs.State.{State, guest_in, with_handles, with_table}
use Rattle.strm_machine.specs.Sides.{end_of, with_end}
use Rattle.strm_machine.specs.Making.{end_entry}
use Rattle.strm_machine.specs.declared.streams.Side.{Side}
use Rattle.strm_machine.specs.declared.streams.Owner.{Owner}
use Rattle.strm_machine.specs.declared.streams.Stream.{Stream}

-- the state without a handle of a guest, which leaves the set that it is in
abbrev pub without_handle : State → ℕ → ℕ → State
without_handle state g handle =
    let guest = guest_in state.guests g in
    record state {
      guests = with_table state.guests g (removed guest.handles handle) (handle_left guest.sets handle);
    }

-- the number that a guest's next handle gets
abbrev pub next_in : State → ℕ → ℕ
next_in state g = next_index (guest_in state.guests g).handles

-- the state with a handle more of a guest, for an end of stream s
abbrev pub handle_given : State → ℕ → Side → TransmitIndex → ℕ → State
handle_given state g side ty s = record state {
  guests = with_handles state.guests g (inserted (guest_in state.guests g).handles (end_entry side ty s));
}

-- the stream with another owner for the end on a side
abbrev pub with_owner : Side → Stream → Owner → Stream
with_owner side stream owner = with_end side stream (record (end_of side stream) { owner = owner })
