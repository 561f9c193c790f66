-- The stream that an act is upon, which is the one that it names by a handle or a number; and an end that a call
-- makes ready. Ours.
use Rattle.std.specs.Prelude.{◌≡◌, ℕ, true, false, Option, Some, None}
use Rattle.strm_machine.specs.State.{State, stream_at}
use Rattle.strm_machine.specs.Tests.{end_named, named, stream_named}
use Rattle.strm_machine.specs.WaitableSets.{ready_in}
use Rattle.strm_machine.specs.declared.acts.Act.{Act}
use Rattle.strm_machine.specs.declared.acts.Act.TheVariants.{OnEnd, Transfer, OnLoose, Event, OnSet}
use Rattle.strm_machine.specs.declared.acts.SetAct.TheVariants as set_acts
use Rattle.strm_machine.specs.declared.streams.Side.{Side}
use Rattle.strm_machine.specs.declared.streams.Stream.{Stream}
use Rattle.strm_transmit.specs.Telling.{has_report}

-- the stream of a guest's handle, if there is one
abbrev pub stream_of_member : State → ℕ → Option ℕ → Option ℕ
stream_of_member state g None = None
stream_of_member state g (Some handle) = Some (stream_named (end_named state g handle))

-- the stream that an act is upon: of a poll, that of the member which it tells; none of a making, which is upon
-- none that was there
abbrev pub own_stream : State → Act → Option ℕ
own_stream state (OnEnd side end act) = Some (stream_named (named state end))
own_stream state (Transfer end to) = Some (stream_named (named state end))
own_stream state (OnLoose reader act) = Some reader
own_stream state (Event g handle) = Some (stream_named (end_named state g handle))
own_stream state (OnSet g set set_acts.Poll) = stream_of_member state g (ready_in state g set)
own_stream state _ = None

-- the end on a side of a stream is to be told something, and was not before
pub record IsMadeReady (side : Side) (old new : Stream) : Type 0 where
  pub before : has_report side old ≡ false
  pub now : has_report side new ≡ true

-- each end that an act makes ready is of the stream that it is upon
abbrev pub MakesOwnReady : Act → State → State → Type 0
MakesOwnReady act old new = (s : ℕ) (side : Side) → IsMadeReady side (stream_at old s) (stream_at new s)
    → own_stream old act ≡ Some s
