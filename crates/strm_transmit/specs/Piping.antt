-- How the loose read end of a stream goes to a host reader in a store. Ours.
use Rattle.std.specs.Prelude.{◌≡◌, ℕ, ◌<◌, true, length, slice_set}
use Rattle.std.specs.Option.{option_map}
use Rattle.strm_buffers.specs.Tells.{Tells, told_by, with_told, told_by_reader, with_told_reader, ClosesWriter, reader_tells_closed}
use Rattle.strm_machine.specs.State.{State, host_limit, no_consumer, producer_at, consumer_at, stream_at, is_loose}
use Rattle.strm_machine.specs.Moves.{with_owner}
use Rattle.strm_machine.specs.Reactions.{with_stream_at}
use Rattle.strm_machine.specs.declared.streams.Duty.TheVariants.{Unused, Serves, Ended}
use Rattle.strm_machine.specs.declared.streams.Owner.{Owner}
use Rattle.strm_machine.specs.declared.streams.Owner.TheVariants.{Host}
use Rattle.strm_machine.specs.declared.streams.Side.TheVariants.{Reading}
use Rattle.strm_machine.specs.declared.streams.Stream.{Stream}
use Rattle.strm_host_machine.specs.Attaching.{withdrawn, without_ends}

-- a loose read end of the type that host reader r reads, which was not used
pub record PipeFits (state : State) (tells : Tells) (s r : ℕ) : Type 0 where
  pub there : r < length tells.readers
  pub few : r < host_limit
  pub unused : (consumer_at state r).duty ≡ Unused
  pub loose : is_loose (stream_at state s).reader.owner ≡ true
  pub kind : (told_by_reader tells r).kind ≡ (stream_at state s).kind
  pub payload : (told_by_reader tells r).payload ≡ (stream_at state s).payload

-- a stream whose write is open has no report of it any more
abbrev pub report_withdrawn : Stream → Stream
report_withdrawn stream =
    record stream { writer = record stream.writer { operation = option_map withdrawn stream.writer.operation } }

-- the state in which host reader r serves stream s and has its read end
abbrev pub handed_to : State → ℕ → ℕ → State
handed_to state s r =
    let handed = record state { consumers = slice_set state.consumers r (record no_consumer { duty = Serves s }) } in
    with_stream_at handed s (with_owner Reading (stream_at state s) (Host r))

-- the state in which both ends of stream s are gone, and so is host reader r
abbrev pub unread_in : State → ℕ → ℕ → State
unread_in state s r =
    let gone = with_stream_at state s (without_ends (stream_at state s)) in
    record gone { consumers = slice_set gone.consumers r (record (consumer_at gone r) { duty = Ended }) }

-- host reader r was closed
abbrev pub reader_closed : Tells → ℕ → Tells
reader_closed tells r = with_told_reader tells r (reader_tells_closed (told_by_reader tells r))

-- and so was host writer n, whose stream has no write end any more
pub record WriterEnds (old new : State) (tells told : Tells) (n : ℕ) : Type 0 where
  pub state : new ≡ record old { producers = slice_set old.producers n (record (producer_at old n) { duty = Ended }) }
  pub closes : ClosesWriter (told_by tells n) (told_by told n)
  pub others : told ≡ with_told tells n (told_by told n)

-- a pipe that ended before it began, by who had the write end: both ends are gone, and host ends are closed
abbrev pub EndsPipe : Owner → State → State → Tells → Tells → ℕ → ℕ → Type 0
EndsPipe (Host n) old new tells told s r =
    WriterEnds (unread_in old s r) new (reader_closed tells r) told n
EndsPipe _ old new tells told s r = (new ≡ unread_in old s r) × (told ≡ reader_closed tells r)
