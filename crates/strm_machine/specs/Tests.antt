-- The conditions of the refusals, each by itself.
-- wasmtime, futures_and_streams.rs and handle_table.rs; the conditions on guests, places and bytes are ours.
use Rattle.std.specs.Prelude.{ℕ, ◌+◌, ◌==◌, Bool, true, false, ◌&&◌, ◌||◌, not, if◌then◌else◌, length, nat_lt, nat_le, is_some, Result, Ok, Err, Option, Some, None}
use Rattle.strm_codes.specs.declared.codes.TransmitIndex.{TransmitIndex}
use Rattle.strm_codes.specs.declared.codes.TransmitIndex.TheVariants as index
use Rattle.strm_codes.specs.declared.codes.TransmitKind.{TransmitKind}
use Rattle.strm_codes.specs.declared.codes.TransmitKind.TheVariants.{Stream as AStream, Future}
use Rattle.strm_codes.specs.Layout.{item_type}
use Rattle.strm_codes.specs.Counts.{count_limit}
use Rattle.strm_codes.specs.Types.{kind_of, payload_of}
use Rattle.strm_codes.specs.Sameness.{same_payload}
use Rattle.strm_memory.specs.Items.{is_number_or_none}
use Rattle.strm_memory.specs.Region as region
use Rattle.strm_handles.specs.Handles.{handle_limit, Handles}
use Rattle.strm_handles.specs.Lookups.{stream_rep_of, future_rep_of, end_rep_of}
use Rattle.strm_handles.specs.declared.errors.HandleError.{HandleError}
use Rattle.strm_handles.specs.declared.errors.HandleError.TheVariants as errors
use Rattle.strm_handles.specs.declared.entries.TransmitLocalState.{TransmitLocalState}
use Rattle.strm_handles.specs.declared.entries.TransmitLocalState.TheVariants as states
use Rattle.strm_machine.specs.declared.acts.NamedEnd.{NamedEnd}
use Rattle.strm_machine.specs.State.{State, guest_in, memory_in, stream_at, is_loose, handles_in_use, places_in_use, bytes_in_use, guest_limit, memory_limit, stream_limit}
use Rattle.strm_machine.specs.Sides.{opposite, end_of}
use Rattle.strm_machine.specs.declared.streams.Side.{Side}
use Rattle.strm_machine.specs.declared.streams.Side.TheVariants.{Writing, Reading}
use Rattle.strm_machine.specs.declared.streams.Operation.{Operation}
use Rattle.strm_machine.specs.declared.streams.Stream.{Stream}

-- a named guest isn't there
abbrev pub is_unknown_guest : State → ℕ → Bool
is_unknown_guest state g = nat_le (length state.guests) g

-- there are as many guests as there can be
abbrev pub are_guests_full : State → Bool
are_guests_full state = nat_le guest_limit (length state.guests)

-- the memories would pass their limit together
abbrev pub is_memory_too_big : State → ℕ → Bool
is_memory_too_big state size = nat_lt memory_limit (bytes_in_use state + size)

-- the handles that a call makes would pass the limit
abbrev pub are_handles_full : State → ℕ → Bool
are_handles_full state needed = nat_lt state.limits.handles (handles_in_use state + needed)

-- the places that a call takes would pass the limit
abbrev pub are_places_full : State → ℕ → Bool
are_places_full state needed = nat_lt state.limits.places (places_in_use state + needed)

-- there are as many streams as there can be
abbrev pub are_streams_full : State → Bool
are_streams_full state = nat_le stream_limit (length state.streams)

-- a number that a table would give is no handle
abbrev pub is_no_handle : ℕ → Bool
is_no_handle number = nat_le handle_limit number

-- a stream's count is no count of items; a future's is not looked at
abbrev pub is_too_big : TransmitIndex → ℕ → Bool
is_too_big (index.Stream payload) count = nat_le count_limit count
is_too_big (index.Future payload) count = false

-- the items that a call asks for: a future's is one
abbrev pub items_asked : TransmitIndex → ℕ → ℕ
items_asked (index.Stream payload) count = count
items_asked (index.Future payload) count = 1

-- the items' region passes the end of the guest's memory
abbrev pub names_out_of_bounds : State → ℕ → TransmitIndex → ℕ → ℕ → Bool
names_out_of_bounds state g ty address count =
    region.is_out_of_bounds (length (memory_in state.guests g)) (item_type (payload_of ty)) address (items_asked ty count)

-- the address is no multiple of the alignment
abbrev pub names_misaligned : TransmitIndex → ℕ → ℕ → Bool
names_misaligned ty address count = region.is_misaligned (item_type (payload_of ty)) address (items_asked ty count)

-- bytes pass the end of the guest's memory
abbrev pub are_bytes_out_of_bounds : State → ℕ → ℕ → ℕ → Bool
are_bytes_out_of_bounds state g address count =
    region.bytes_out_of_bounds (length (memory_in state.guests g)) address count

-- what a guest's table answers for a handle of a type: a stream's number, and which end it is
abbrev pub Name : Type 0
Name = Result (ℕ × TransmitLocalState) HandleError

-- a table's answer for a handle of a type
abbrev pub named_by : TransmitIndex → Handles → ℕ → Name
named_by (index.Stream payload) handles handle = stream_rep_of handles payload handle
named_by (index.Future payload) handles handle = future_rep_of handles payload handle

-- the answer of the guest's table for the end that is named
abbrev pub named : State → NamedEnd → Name
named state end = named_by end.ty (guest_in state.guests end.guest).handles end.handle

-- the same whatever the type
abbrev pub end_named : State → ℕ → ℕ → Name
end_named state g handle = end_rep_of (guest_in state.guests g).handles handle

-- the table has no such handle
abbrev pub is_unknown_handle : {A : Type 0} → Result A HandleError → Bool
is_unknown_handle (Err errors.UnknownHandle) = true
is_unknown_handle _ = false

-- it stands for something of another kind
abbrev pub is_wrong_kind : {A : Type 0} → Result A HandleError → Bool
is_wrong_kind (Err errors.WrongKind) = true
is_wrong_kind _ = false

-- it stands for an end of another type
abbrev pub is_wrong_type : Name → Bool
is_wrong_type (Err errors.WrongType) = true
is_wrong_type _ = false

-- the number of the stream that is named
abbrev pub stream_named : Name → ℕ
stream_named (Ok answer) = answer.0
stream_named (Err error) = 0

-- the end that a table's entry says
abbrev pub side_of : TransmitLocalState → Side
side_of (states.Write done) = Writing
side_of (states.Read done) = Reading
side_of (states.Busy reading) = if reading then Reading else Writing

-- the end that is named
abbrev pub side_named : Name → Side
side_named (Ok answer) = side_of answer.1
side_named (Err error) = Writing

-- an operation whose host end on the other side was asked to finish
abbrev pub was_asked : Option Operation → Bool
was_asked None = false
was_asked (Some operation) = operation.asked

-- the end's operation is being cancelled already
abbrev pub is_cancel_under_way : Side → Stream → Bool
is_cancel_under_way side stream = was_asked (end_of side stream).operation

-- the end has an operation
abbrev pub is_busy : Side → Stream → Bool
is_busy side stream = is_some (end_of side stream).operation

-- a read or write of this end can't be any more: the end was told, or a future's value passed
abbrev pub has_ended : Side → TransmitKind → Stream → Bool
has_ended side AStream stream = (end_of side stream).told
has_ended Writing Future stream = stream.writer.told || stream.passed
has_ended Reading Future stream = stream.passed

-- a future's write end may not go before the value passed or it was told that nobody reads it
abbrev pub owes_value : Side → TransmitKind → Stream → Bool
owes_value side AStream stream = false
owes_value Writing Future stream = not (stream.passed || stream.writer.told)
owes_value Reading Future stream = false

-- an operation that is open, and of this guest
abbrev pub is_open_of : ℕ → Option Operation → Bool
is_open_of g None = false
is_open_of g (Some operation) = operation.is_open && (operation.guest == g)

-- an open operation of the same guest waits on the other side, for items that don't move within one guest
abbrev pub is_within_one_guest : ℕ → Side → TransmitIndex → Stream → Bool
is_within_one_guest g side ty stream =
    is_open_of g (end_of (opposite side) stream).operation && not (is_number_or_none (payload_of ty))

-- an end that was told that the other one is gone, or whose value passed: it stays where it is
abbrev pub is_spent : Side → Stream → Bool
is_spent side stream = (end_of side stream).told || stream.passed

-- no stream of this number has a loose read end
abbrev pub is_unknown_reader : State → ℕ → Bool
is_unknown_reader state reader = not (is_loose (stream_at state reader).reader.owner)

-- two kinds are the same
abbrev pub same_kind : TransmitKind → TransmitKind → Bool
same_kind AStream AStream = true
same_kind Future Future = true
same_kind _ _ = false

-- a stream is of another kind than a type says
abbrev pub is_of_other_kind : TransmitIndex → Stream → Bool
is_of_other_kind ty stream = not (same_kind stream.kind (kind_of ty))

-- or of another payload
abbrev pub is_of_other_payload : TransmitIndex → Stream → Bool
is_of_other_payload ty stream = not (same_payload stream.payload (payload_of ty))
