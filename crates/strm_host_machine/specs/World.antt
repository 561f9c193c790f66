-- The machine's state with what its host ends tell.
-- wasmtime, futures_and_streams.rs, `TransmitState` with `WriteState::HostReady` and
-- `ReadState::HostReady`.
use Rattle.std.specs.Prelude.{ℕ, List, ◌++◌, slice_set}
use Rattle.strm_buffers.specs.Listing.{Item}
use Rattle.strm_machine.specs.State.{State, Guest, producer_at, kept_at, consumer_at, stream_at}
use Rattle.strm_machine.specs.declared.streams.Duty.TheVariants.{Ended}
use Rattle.strm_machine.specs.declared.streams.Owner.{Owner}
use Rattle.strm_machine.specs.declared.streams.Owner.TheVariants.{Host, Gone}
use Rattle.strm_machine.specs.declared.streams.Producer.{Producer}
use Rattle.strm_machine.specs.declared.streams.Consumer.{Consumer}
use Rattle.strm_machine.specs.declared.streams.Stream.{Stream}
use Rattle.strm_host_machine.specs.Ends.{Writer, Reader, writer_in, reader_in, closed_writer, closed_reader}

-- a state, and the host ends by their numbers
pub record World : Type 0 where
  pub state : State
  pub writers : List Writer
  pub readers : List Reader

-- LOOKING

-- the stream of a number
abbrev pub stream_in : World → ℕ → Stream
stream_in world s = stream_at world.state s

-- the host writer of a number
abbrev pub writer_at : World → ℕ → Writer
writer_at world n = writer_in world.writers n

-- the host reader of a number
abbrev pub reader_at : World → ℕ → Reader
reader_at world r = reader_in world.readers r

-- what is held on the stream that host writer n writes: what is kept for a host reader, and then what
-- the writer holds itself
abbrev pub held_of : World → ℕ → List Item
held_of world n = kept_at world.state n ++ (writer_at world n).holds

-- WRITING

-- other guests
abbrev pub with_guests : World → List Guest → World
with_guests world guests = record world { state = record world.state { guests = guests } }

-- something else is kept of host writer n
abbrev pub with_producer : World → ℕ → Producer → World
with_producer world n producer =
    record world { state = record world.state { producers = slice_set world.state.producers n producer } }

-- these items of host writer n are kept
abbrev pub with_kept : World → ℕ → List Item → World
with_kept world n items =
    record world { state = record world.state { kept = slice_set world.state.kept n items } }

-- something else is kept of host reader r
abbrev pub with_consumer : World → ℕ → Consumer → World
with_consumer world r consumer =
    record world { state = record world.state { consumers = slice_set world.state.consumers r consumer } }

-- host writer n tells something else
abbrev pub with_writer : World → ℕ → Writer → World
with_writer world n writer = record world { writers = slice_set world.writers n writer }

-- host reader r tells something else
abbrev pub with_reader : World → ℕ → Reader → World
with_reader world r reader = record world { readers = slice_set world.readers r reader }

-- GOING

-- host writer n is no end of a stream any more, and is closed
abbrev pub without_writer : World → ℕ → World
without_writer world n =
    let ended = with_producer world n (record (producer_at world.state n) { duty = Ended }) in
    with_writer ended n (closed_writer (writer_at world n))

-- the same of host reader r
abbrev pub without_reader : World → ℕ → World
without_reader world r =
    let ended = with_consumer world r (record (consumer_at world.state r) { duty = Ended }) in
    with_reader ended r (closed_reader (reader_at world r))

-- a write end that had the first of these owners has the second: a host writer that is gone is closed
-- in the same step
abbrev pub leaves_writer : Owner → Owner → World → World
leaves_writer (Host n) Gone world = without_writer world n
leaves_writer _ _ world = world

-- the same of a read end and a host reader
abbrev pub leaves_reader : Owner → Owner → World → World
leaves_reader (Host r) Gone world = without_reader world r
leaves_reader _ _ world = world

-- stream s is this one now, and its host ends that are gone are closed
unfoldable pub with_stream_in : World → ℕ → Stream → World
with_stream_in world s stream =
    let state = record world.state { streams = slice_set world.state.streams s stream } in
    leaves_writer (stream_in world s).writer.owner stream.writer.owner
    (leaves_reader (stream_in world s).reader.owner stream.reader.owner (record world { state = state }))
