-- The other end of a guest's end. Ours.
use Rattle.std.specs.Prelude.{ℕ}
use Rattle.strm_machine.specs.State.{State, stream_at}
use Rattle.strm_machine.specs.Sides.{opposite, end_of}
use Rattle.strm_machine.specs.Tests.{end_named, stream_named, side_named}
use Rattle.strm_machine.specs.declared.streams.Owner.{Owner}

-- who has the other end of the end that a guest's handle names
abbrev pub owner_across : State → ℕ → ℕ → Owner
owner_across state g handle =
    let name = end_named state g handle in
    (end_of (opposite (side_named name)) (stream_at state (stream_named name))).owner
