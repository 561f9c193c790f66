-- The cell of the end that a guest's handle names. Ours.
use Rattle.std.specs.Prelude.{ℕ, if◌then◌else◌, Option, Some, None, Ok, Err, ◌≡◌}
use Rattle.strm_events.specs.Cells.{Cell}
use Rattle.strm_channels.specs.Channels.{cell_of}
use Rattle.strm_machine.specs.State.{State, stream_at}
use Rattle.strm_machine.specs.Tests.{Name, end_named, side_of, is_unknown_guest, stream_named, side_named}
use Rattle.strm_machine.specs.Sides.{end_of}
use Rattle.strm_machine.specs.declared.streams.Side.{Side}
use Rattle.strm_machine.specs.declared.streams.Owner.TheVariants.{Held}

-- the cell of the end that is named, if one is
abbrev pub cell_of_name : State → Name → Option Cell
cell_of_name state (Ok answer) = Some (cell_of (side_of answer.1) (stream_at state answer.0))
cell_of_name state (Err error) = None

-- none exactly where no such guest is there, or the handle is no end of a stream or a future
abbrev pub cell_named : State → ℕ → ℕ → Option Cell
cell_named state g handle =
    if is_unknown_guest state g then None else cell_of_name state (end_named state g handle)

-- the stream and the side that a guest's handle names
abbrev pub stream_side_named : State → ℕ → ℕ → ℕ × Side
stream_side_named state g handle =
    (stream_named (end_named state g handle), side_named (end_named state g handle))

-- that end is this guest's, under this handle
abbrev pub IsOwn : State → ℕ → ℕ → Type 0
IsOwn state g handle =
    let place = stream_side_named state g handle in
    (end_of place.1 (stream_at state place.0)).owner ≡ Held g handle
