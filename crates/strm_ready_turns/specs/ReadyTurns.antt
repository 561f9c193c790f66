-- What a turn leaves of a ready host end, beside what that tells. Ours.
use Rattle.std.specs.Prelude.{◌≡◌, ◌+◌, List, ◌++◌, length, Result}
use Rattle.strm_buffers.specs.Listing.{Item}
use Rattle.strm_buffers.specs.Tells.{WriterTells}
use Rattle.strm_machine.specs.State.{Guest}
use Rattle.strm_machine.specs.declared.streams.Operation.{Operation}
use Rattle.strm_machine.specs.declared.streams.Producer.{Producer}
use Rattle.strm_machine.specs.declared.streams.Stream.{Stream}
use Rattle.strm_host_turns.specs.WriterTurns.{writer_scene, IsWriterPoll}
use Rattle.strm_host_turns.specs.declared.writer_turns.WriterStops.{WriterStops}
use Rattle.strm_ready_ends.specs.ReceiveQueues.{ReceiveQueue}

-- a ready host reader took items of those that it was granted, and kept them; whether it wants no more stays
pub record TakesGranted (old new : ReceiveQueue) : Type 0 where
  pub items : List Item
  pub kept : new.items ≡ old.items ++ items
  pub credit : new.credit + length items ≡ old.credit
  pub ended : new.ended ≡ old.ended

-- what a turn touches but the guests
pub record PolledScene : Type 0 where
  pub stream : Stream
  pub producer : Producer
  pub tells : WriterTells

-- these
abbrev pub polled_scene : Stream → Producer → WriterTells → PolledScene
polled_scene stream producer tells = record { stream = stream; producer = producer; tells = tells }

-- a poll for a read that leaves all guests as they are
abbrev pub IsPollOfNone : Result (Unit {0}) WriterStops → PolledScene → PolledScene → Operation → Type 0
IsPollOfNone result old new read =
    (guests : List Guest) → IsWriterPoll result (writer_scene guests old.stream old.producer old.tells) (writer_scene guests new.stream new.producer new.tells) read
