-- What the turn of a host end does to a store, and which streams a drive round goes through. Ours.
use Rattle.std.specs.Prelude.{◌≡◌, ℕ, ◌<◌, ◌≤◌, true, length, nat_le, not, ◌&&◌, if◌then◌else◌, slice_set, Option, Some, None, Result, IsTrue}
use Rattle.strm_buffers.specs.Tells.{Tells, told_by, with_told, told_by_reader, with_told_reader}
use Rattle.strm_machine.specs.State.{State, producer_at, consumer_at, stream_at, is_host}
use Rattle.strm_machine.specs.Hosting.{duty_of}
use Rattle.strm_machine.specs.Sides.{opposite, end_of}
use Rattle.strm_machine.specs.Soundness.{sizes_of, IsPlaced}
use Rattle.strm_host_machine.specs.Does.{Fits}
use Rattle.strm_machine.specs.declared.streams.Duty.{Duty}
use Rattle.strm_machine.specs.declared.streams.Duty.TheVariants.{Serves}
use Rattle.strm_machine.specs.declared.streams.HostEnd.TheVariants as ends
use Rattle.strm_machine.specs.declared.streams.Operation.{Operation}
use Rattle.strm_machine.specs.declared.streams.Owner.{Owner}
use Rattle.strm_machine.specs.declared.streams.Side.{Side}
use Rattle.strm_machine.specs.declared.streams.Side.TheVariants.{Writing, Reading}
use Rattle.strm_machine.specs.declared.streams.Stream.{Stream}
use Rattle.strm_machine.specs.declared.streams.Owner.TheVariants.{Host}
use Rattle.strm_host_machine.specs.World.{World}
use Rattle.strm_host_machine.specs.Outcomes.{Outcome}
use Rattle.strm_host_machine.specs.WriterTurn.{writer_turn}
use Rattle.strm_host_machine.specs.ReaderTurn.{reader_turn}
use Rattle.strm_host_machine.specs.Steps.{reads_from, writes_to}
use Rattle.strm_host_turns.specs.WriterTurns.{WriterScene, writer_scene, IsWriterTurn}
use Rattle.strm_host_turns.specs.ReaderTurns.{ReaderScene, reader_scene, IsReaderTurn}
use Rattle.strm_host_turns.specs.declared.reader_turns.ReaderStops.{ReaderStops}
use Rattle.strm_host_turns.specs.declared.reader_turns.ReaderStops.TheVariants as reader_stops
use Rattle.strm_host_turns.specs.declared.writer_turns.WriterStops.{WriterStops}
use Rattle.strm_host_turns.specs.declared.writer_turns.WriterStops.TheVariants.{Failed, OutOfMemory, Broke}
use Rattle.strm_transmit.specs.declared.errors.StoreError.{StoreError}
use Rattle.strm_transmit.specs.declared.errors.StoreError.TheVariants as errors
use Rattle.strm_machine.specs.declared.streams.End.{End}
use Rattle.strm_machine.specs.Tests.{is_open_of}
use Rattle.strm_memory.specs.Items.{is_number_or_none}

-- the end across from a side of stream s
abbrev pub across : State → Side → ℕ → End
across state side s = end_of (opposite side) (stream_at state s)

-- the items of an operation on stream s lie in its guest's memory
abbrev pub IsPlacedOn : State → ℕ → Operation → Type 0
IsPlacedOn state s operation = IsPlaced (sizes_of state.guests) (stream_at state s).payload operation

-- where the guest of an operation on a side of stream s has one open across, the items are numbers or none
abbrev pub IsNumberWithin : State → Side → ℕ → ℕ → Type 0
IsNumberWithin state side s guest =
    IsTrue (is_open_of guest (across state side s).operation) → IsTrue (is_number_or_none (stream_at state s).payload)

-- this operation waits open on a side of stream s, across from host end n, in a store that its host ends fit
pub record IsAcross (state : State) (tells : Tells) (side : Side) (s n : ℕ) (operation : Operation) : Type 0 where
  pub waiting : (end_of side (stream_at state s)).operation ≡ Some operation
  pub is_open : operation.is_open ≡ true
  pub there : s < length state.streams
  pub owner : (across state side s).owner ≡ Host n
  pub placed : IsPlacedOn state s operation
  pub fits : Fits state tells

-- why a turn of host writer n stops a call
abbrev pub stop_of_writer : WriterStops → ℕ → StoreError
stop_of_writer Failed n = errors.HostFailed (ends.Writer n)
stop_of_writer Broke n = errors.HostBroke (ends.Writer n)
stop_of_writer OutOfMemory n = errors.OutOfMemory

-- why a turn of host reader r for a write on stream s does
abbrev pub stop_of_reader : ReaderStops → ℕ → ℕ → StoreError
stop_of_reader reader_stops.Failed r s = errors.HostFailed (ends.Reader r)
stop_of_reader reader_stops.Broke r s = errors.HostBroke (ends.Reader r)
stop_of_reader reader_stops.BadItem r s = errors.BadItem s
stop_of_reader reader_stops.OutOfMemory r s = errors.OutOfMemory

-- host writer n had its turn for a read on stream s: what a turn touches is as the turn left it, and
-- nothing else changed
pub record HasWriterTurn (old new : State) (tells told : Tells) (n s : ℕ) (read : Operation) (result : Result (Unit {0}) WriterStops) : Type 0 where
  pub after : WriterScene
  pub turns : IsWriterTurn result (writer_scene old.guests (stream_at old s) (producer_at old n) (told_by tells n)) after read
  pub state : new ≡ record old {
    guests = after.guests;
    streams = slice_set old.streams s after.stream;
    producers = slice_set old.producers n after.producer;
  }
  pub ends : told ≡ with_told tells n after.tells

-- host reader r had its turn for a write on stream s: the same
pub record HasReaderTurn (old new : State) (tells told : Tells) (r s : ℕ) (write : Operation) (result : Result (Unit {0}) ReaderStops) : Type 0 where
  pub after : ReaderScene
  pub takes : IsReaderTurn result (reader_scene old.guests (stream_at old s) (consumer_at old r) (told_by_reader tells r)) after write
  pub state : new ≡ record old {
    guests = after.guests;
    streams = slice_set old.streams s after.stream;
    consumers = slice_set old.consumers r after.consumer;
  }
  pub ends : told ≡ with_told_reader tells r after.tells

-- the turn of the host end across an operation on a side of stream s
abbrev pub turn_for : Side → ℕ → ℕ → Operation → World → Outcome
turn_for Reading s n read world = writer_turn world s n read
turn_for Writing s r write world = reader_turn world s r write

-- an operation opens on a side of stream s, and the host end across has its turn at once
abbrev pub polls_for : Side → ℕ → ℕ → Operation → World → Outcome
polls_for Reading s n read world = reads_from world s n read
polls_for Writing s r write world = writes_to world s r write

-- the host end across an end with this operation, which it serves, if there are both: by the owners of the
-- other end and of the end itself, of which a host end waits for nothing
abbrev pub due_in : Owner → Owner → Option Operation → Option (ℕ × Operation)
due_in (Host n) mine (Some operation) =
    if not (is_host mine) && operation.is_open then Some (n, operation) else None
due_in _ _ _ = None

-- what is due on a side of a stream
abbrev pub due_on : Side → Stream → Option (ℕ × Operation)
due_on side stream =
    due_in (end_of (opposite side) stream).owner (end_of side stream).owner (end_of side stream).operation

-- the lesser of a number and another, if there is one
abbrev pub least_of : ℕ → Option ℕ → Option ℕ
least_of s None = Some s
least_of s (Some other) = if nat_le other s then Some other else Some s

-- the least of some streams from a number on, and of the one that this duty is for
abbrev pub next_for_duty : Duty → ℕ → Option ℕ → Option ℕ
next_for_duty (Serves s) from least = if nat_le from s then least_of s least else least
next_for_duty _ from least = least

-- the least stream from a number on that a host end serves, of those that are looked at
pub record IsNextAmong (state : State) (looked : Side → ℕ → Type 0) (from s : ℕ) : Type 0 where
  pub behind : from ≤ s
  pub side : Side
  pub number : ℕ
  pub serves : duty_of side state number ≡ Serves s
  pub least : (k : Side) (n t : ℕ) → looked k n → duty_of k state n ≡ Serves t → from ≤ t → s ≤ t

-- which it is, if there is one
abbrev pub NextAmong : State → (Side → ℕ → Type 0) → ℕ → Option ℕ → Type 0
NextAmong state looked from (Some s) = IsNextAmong state looked from s
NextAmong state looked from None = (k : Side) (n t : ℕ) → looked k n → duty_of k state n ≡ Serves t → from ≤ t → ⊥

-- of all host ends
abbrev pub all_ends : Side → ℕ → Type 0
all_ends side n = Unit {0}

-- the least stream from a number on that a host end serves, if there is one
abbrev pub NextServed : State → ℕ → Option ℕ → Type 0
NextServed state from next = NextAmong state all_ends from next
