-- What is asked of a guest's handles, which changes nothing: what a handle is of, which one is next, and
-- how many there are.
-- Canonical ABI, "Table State"; wasmtime, `handle_table.rs`, `HandleTable`. Ours: that it is asked.
use Rattle.std.specs.Prelude.{ℕ, List, length, is_some, nat_lt, if◌then◌else◌, Option, Some, None, Result, Ok, Err}
use Rattle.std.specs.List.{filter, find, range_with_len}
use Rattle.std.specs.Option.{option_map}
use Rattle.strm_codes.specs.declared.refusals.Refusal.{Refusal}
use Rattle.strm_codes.specs.declared.refusals.Refusal.TheVariants as refusals
use Rattle.strm_handles.specs.Handles.{Handles, entry_at, occupied}
use Rattle.strm_handles.specs.declared.entries.Entry.{Entry}
use Rattle.strm_handles.specs.declared.entries.Entry.TheVariants as entries
use Rattle.strm_handles.specs.declared.entries.TransmitEnd.{TransmitEnd}
use Rattle.strm_machine.specs.State.{State, guest_in, stream_at}
use Rattle.strm_machine.specs.Sides.{opposite, end_of}
use Rattle.strm_machine.specs.Endings.{report_on}
use Rattle.strm_machine.specs.Soundness.{type_of}
use Rattle.strm_machine.specs.Tests.{side_of, is_unknown_guest}
use Rattle.strm_transmit.specs.declared.store.queries.EndInfo.{EndInfo}
use Rattle.strm_transmit.specs.declared.store.queries.Handle.{Handle}
use Rattle.strm_transmit.specs.declared.store.queries.Handle.TheVariants as handle

-- WHAT A HANDLE IS OF

-- what is told of an end, by what a table keeps of it: its stream's type, the side, the stream's number,
-- what the end is to be told, and who has the other one
abbrev pub end_told : State → TransmitEnd → EndInfo
end_told state end =
    let stream = stream_at state end.rep in
    let side = side_of end.state in
    record {
      ty = type_of stream;
      side = side;
      stream = end.rep;
      event = report_on side stream;
      other = (end_of (opposite side) stream).owner;
    }

-- what is told of what a handle stands for
abbrev pub told_of : State → Entry → Handle
told_of state (entries.Stream end) = handle.End (end_told state end)
told_of state (entries.Future end) = handle.End (end_told state end)
told_of state (entries.WaitableSet rep) = handle.WaitableSet
told_of state (entries.ErrorContext rep) = handle.ErrorContext
told_of state _ = handle.Other

-- what is told of a guest's handle, if it stands for anything
abbrev pub handle_told : State → ℕ → ℕ → Option Handle
handle_told state g number = option_map (told_of state) (entry_at (guest_in state.guests g).handles number)

-- what is asked of a guest that is not there
abbrev pub of_guest : {V : Type 0} → State → ℕ → Result V Refusal → Result V Refusal
of_guest state g answer = if is_unknown_guest state g then Err refusals.UnknownGuest else answer

-- what is there, or else that there is no such handle
abbrev pub or_unknown : {V : Type 0} → Option V → Result V Refusal
or_unknown None = Err refusals.UnknownHandle
or_unknown (Some value) = Ok value

-- what is answered of a guest's handle, also by a store that was trapped
abbrev pub handle_answer : State → ℕ → ℕ → Result Handle Refusal
handle_answer state g number = of_guest state g (or_unknown (handle_told state g number))

-- WHICH HANDLE IS NEXT

-- the numbers of a table that stand for something, in rising order
unfoldable pub numbers_of_handles : Handles → List ℕ
numbers_of_handles handles = filter (λ n. is_some (entry_at handles n)) (range_with_len 1 (length handles.entries))

-- the least of them above a number
unfoldable pub next_above : Handles → ℕ → Option ℕ
next_above handles after = find (nat_lt after) (numbers_of_handles handles)

-- a guest's handle, if there is one, with what is told of it
abbrev pub handle_with_told : State → ℕ → Option ℕ → Option (ℕ × Handle)
handle_with_told state g None = None
handle_with_told state g (Some number) = option_map (λ told. (number, told)) (handle_told state g number)

-- the next handle of a guest above a number, with what is told of it; none behind the last
abbrev pub next_told : State → ℕ → ℕ → Option (ℕ × Handle)
next_told state g after = handle_with_told state g (next_above (guest_in state.guests g).handles after)

-- what is answered of the next handle of a guest, also by a store that was trapped
abbrev pub next_handle_answer : State → ℕ → ℕ → Result (Option (ℕ × Handle)) Refusal
next_handle_answer state g after = of_guest state g (Ok (next_told state g after))

-- HOW MANY THERE ARE

-- how many handles a guest has, also of a store that was trapped
abbrev pub count_answer : State → ℕ → Result ℕ Refusal
count_answer state g = of_guest state g (Ok (occupied (guest_in state.guests g).handles))
