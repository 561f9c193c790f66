-- A drive round: one turn of each stream whose host ends have something to do, by number.
-- Ours: wasmtime's event loop polls the futures of its host ends.
use Rattle.std.specs.Prelude.{ℕ, zero, suc, ◌+◌, if◌then◌else◌, List, [], ◌∷◌, length, Option, Some, None}
use Rattle.strm_machine.specs.declared.streams.Owner.{Owner}
use Rattle.strm_machine.specs.declared.streams.Owner.TheVariants.{Host}
use Rattle.strm_machine.specs.declared.streams.Operation.{Operation}
use Rattle.strm_machine.specs.declared.streams.Stream.{Stream}
use Rattle.strm_host_machine.specs.World.{World, stream_in}
use Rattle.strm_host_machine.specs.Outcomes.{Outcome, done, then_on}
use Rattle.strm_host_machine.specs.WriterTurn.{writer_turn}
use Rattle.strm_host_machine.specs.ReaderTurn.{reader_turn}
use Rattle.strm_host_machine.specs.Piping.{pipe_round}

-- a turn for an operation that is open
abbrev pub if_open : World → Option Operation → (Operation → Outcome) → Outcome
if_open world None turn = done world
if_open world (Some operation) turn = if operation.is_open then turn operation else done world

-- by the owners of its write end and of its read end
abbrev pub driven_by : World → ℕ → Stream → Owner → Owner → Outcome
driven_by world s stream (Host n) (Host r) = pipe_round world s n r
driven_by world s stream (Host n) _ = if_open world stream.reader.operation (writer_turn world s n)
driven_by world s stream _ (Host r) = if_open world stream.writer.operation (reader_turn world s r)
driven_by world s stream _ _ = done world

-- the turn of stream s in a drive round
unfoldable pub drive_turn : World → ℕ → Outcome
drive_turn world s =
    let stream = stream_in world s in driven_by world s stream stream.writer.owner stream.reader.owner

-- so many numbers, from one on
abbrev pub numbers_from : ℕ → ℕ → List ℕ
numbers_from s zero = []
numbers_from s (suc n) = s ∷ numbers_from (s + 1) n

-- the turns of these streams in order
abbrev pub driven : World → List ℕ → Outcome
driven world [] = done world
driven world (s ∷ more) = then_on (drive_turn world s) (λ after. driven after more)

-- the streams that a drive round goes through: all that were made
abbrev pub round_of : World → List ℕ
round_of world = numbers_from 0 (length world.state.streams)
