-- Host ends that become ends of streams, and that go with the other end.
-- wasmtime, futures_and_streams.rs, `StreamReader::new`, `pipe` and `close`, and the drops of ends.
use Rattle.std.specs.Prelude.{ℕ, Bool, true, false, ◌&&◌, not, if◌then◌else◌, List, [], ◌∷◌, ◌++◌, length}
use Rattle.std.specs.Option.{option_map}
use Rattle.strm_buffers.specs.Listing.{Item}
use Rattle.strm_machine.specs.State.{no_producer, no_consumer, producer_at, idle_end}
use Rattle.strm_machine.specs.Sides.{opposite}
use Rattle.strm_machine.specs.Moves.{with_owner}
use Rattle.strm_machine.specs.declared.streams.Duty.TheVariants.{Serves}
use Rattle.strm_machine.specs.declared.streams.Owner.{Owner}
use Rattle.strm_machine.specs.declared.streams.Owner.TheVariants.{Loose, Host, Gone}
use Rattle.strm_machine.specs.declared.streams.Operation.{Operation}
use Rattle.strm_machine.specs.declared.streams.Producer.{Producer}
use Rattle.strm_machine.specs.declared.streams.Side.{Side}
use Rattle.strm_machine.specs.declared.streams.Side.TheVariants.{Writing, Reading}
use Rattle.strm_machine.specs.declared.streams.Stream.{Stream}
use Rattle.strm_machine.specs.declared.replies.Reply.TheVariants as replies
use Rattle.strm_host_machine.specs.Ends.{Writer}
use Rattle.strm_host_machine.specs.World.{World, stream_in, writer_at, with_producer, with_consumer, with_stream_in}
use Rattle.strm_host_machine.specs.Outcomes.{Outcome, Goes}

-- A STREAM OF A HOST WRITER

-- a stream of host writer n, its read end loose
abbrev pub hosted_stream : Writer → ℕ → Stream
hosted_stream writer n = record {
  kind = writer.kind;
  payload = writer.payload;
  passed = false;
  writer = idle_end (Host n);
  reader = idle_end Loose;
  received = 0;
}

-- a stream more
abbrev pub with_new_stream : World → Stream → World
with_new_stream world stream =
    record world { state = record world.state { streams = world.state.streams ++ stream ∷ [] } }

-- a list has items
abbrev pub has_items : List Item → Bool
has_items [] = false
has_items (item ∷ items) = true

-- what is kept of a host writer that gets stream s
abbrev pub new_producer : ℕ → Writer → Producer
new_producer s writer = record no_producer { duty = Serves s; holding = has_items writer.holds }

-- host writer n gets a stream, whose number is answered; what is held on it is what the writer holds
unfoldable pub hosts_new : World → ℕ → Outcome
hosts_new world n =
    let s = length world.state.streams in
    Goes (replies.Number s)
    (with_new_stream (with_producer world n (new_producer s (writer_at world n)))
    (hosted_stream (writer_at world n) n))

-- A LOOSE READ END THAT GOES TO A HOST READER

-- the report of an operation that is open is withdrawn; what it moved stays
abbrev pub withdrawn : Operation → Operation
withdrawn operation = if operation.is_open then record operation { met = false } else operation

-- the stream with its read end at host reader r
abbrev pub piped : Stream → ℕ → Stream
piped stream r =
    let writer = record stream.writer { operation = option_map withdrawn stream.writer.operation } in
    with_owner Reading (record stream { writer = writer }) (Host r)

-- nothing comes any more from a write end of this owner, whose read end is loose
abbrev pub is_dry : World → Owner → Bool
is_dry world Gone = true
is_dry world (Host n) = (producer_at world.state n).over && not (has_items (writer_at world n).holds)
is_dry world _ = false

-- a stream whose both ends are gone
abbrev pub without_ends : Stream → Stream
without_ends stream = with_owner Writing (with_owner Reading stream Gone) Gone

-- stream s then: where nothing comes any more both ends are gone at once
abbrev pub piped_by : World → ℕ → ℕ → World
piped_by world s r =
    let stream = piped (stream_in world s) r in
    let after = with_stream_in world s stream in
    if is_dry world stream.writer.owner then with_stream_in after s (without_ends stream) else after

-- the loose read end of stream s goes to host reader r, which is not polled
unfoldable pub pipes : World → ℕ → ℕ → Outcome
pipes world s r =
    Goes replies.Done (piped_by (with_consumer world r (record no_consumer { duty = Serves s })) s r)

-- ENDS THAT GO

-- the host end on the other side goes with the end on a side
abbrev pub forsaken : Side → Stream → Stream
forsaken side stream = with_owner (opposite side) stream Gone

-- after the end on a side of stream s was dropped
abbrev pub forsakes : Outcome → ℕ → Side → Outcome
forsakes (Goes reply world) s side = Goes reply (with_stream_in world s (forsaken side (stream_in world s)))
forsakes outcome s side = outcome
