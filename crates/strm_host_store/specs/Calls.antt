-- How a call of a store with ready host ends is a step of the machine among them. Ours.
use Rattle.std.specs.Prelude.{◌≡◌, ◌≢◌, ℕ, ◌<◌, ◌≤◌, false, true, length, map, [], Option, Some, None, Result, Ok, Err}
use Rattle.strm_codes.specs.declared.codes.ReturnCode.{ReturnCode}
use Rattle.strm_codes.specs.declared.refusals.Refusal.{Refusal}
use Rattle.strm_buffers.specs.Tells.{WriterTells, ReaderTells, Tells, told_by, with_told, told_by_reader, with_told_reader}
use Rattle.strm_machine.specs.State.{State, stream_at}
use Rattle.strm_machine.specs.Reactions.{Reaction, reaction}
use Rattle.strm_machine.specs.declared.acts.Act.{Act}
use Rattle.strm_machine.specs.declared.acts.Act.TheVariants.{OnEnd}
use Rattle.strm_machine.specs.declared.acts.EndAct.TheVariants.{Operate}
use Rattle.strm_machine.specs.declared.acts.NamedEnd.{NamedEnd}
use Rattle.strm_machine.specs.declared.replies.Reply.{Reply}
use Rattle.strm_machine.specs.declared.replies.Reply.TheVariants as replies
use Rattle.strm_machine.specs.declared.streams.Owner.{Owner}
use Rattle.strm_machine.specs.declared.streams.Owner.TheVariants.{Host}
use Rattle.strm_machine.specs.declared.streams.Side.{Side}
use Rattle.strm_machine.specs.declared.streams.Side.TheVariants.{Writing, Reading}
use Rattle.strm_machine.specs.declared.streams.Stream.{Stream}
use Rattle.strm_host_machine.specs.Driving.{drive_turn}
use Rattle.strm_transmit.specs.BadItems.{MeetsOrStays}
use Rattle.strm_transmit.specs.Hosted.{MeetsHosted, IsPart, RunsOutNoneHeld}
use Rattle.strm_transmit.specs.Meets.{Meets, as_reply}
use Rattle.strm_transmit.specs.OutOfMemory.{OfTurn}
use Rattle.strm_transmit.specs.Queries.{handle_answer}
use Rattle.strm_transmit.specs.declared.errors.StoreError.{StoreError}
use Rattle.strm_transmit.specs.declared.errors.StoreError.TheVariants.{OutOfMemory}
use Rattle.strm_transmit.specs.declared.store.queries.Handle.{Handle}
use Rattle.strm_transmit.specs.declared.store.queries.Handle.TheVariants as handle
use Rattle.strm_host_store.specs.HostStates.{HostState, tells_in}
use Rattle.strm_host_store.specs.declared.errors.DriveError.{DriveError}
use Rattle.strm_host_store.specs.declared.errors.DriveError.TheVariants as drives

-- AMONG GUESTS

-- a call that no host end has a part in: the machine's step without them, and they are as they were
pub record MeetsBeside (old new : HostState) (result : Result Reply StoreError) (reaction : Reaction) : Type 0 where
  pub meets : Meets old.state new.state result reaction
  pub beside : new ≡ record old { state = new.state }

-- the same of a read or write, which leaves the store as it was where it would move an item that is none
pub record StaysBeside (old new : HostState) (result : Result Reply StoreError) (reaction : Reaction) : Type 0 where
  pub meets : MeetsOrStays old.state new.state result reaction
  pub beside : new ≡ record old { state = new.state }

-- AMONG HOST ENDS

-- a call that polls none: the machine's step among the host ends
abbrev pub MeetsAmong : HostState → HostState → Result Reply StoreError → Act → Type 0
MeetsAmong old new result act = MeetsHosted old.state new.state (tells_in old) (tells_in new) result act

-- a call that may poll some: there is what the host ends told in the step, and records of polls are forgotten
-- before the call answers
pub record PollsAmong (old new : HostState) (result : Result Reply StoreError) (act : Act) (forgotten : Tells → Tells) : Type 0 where
  pub told : Tells
  pub meets : MeetsHosted old.state new.state (tells_in old) told result act
  pub after : tells_in new ≡ forgotten told

-- RECORDS

-- the records of a host writer are forgotten
abbrev pub told_forgotten : WriterTells → WriterTells
told_forgotten tells = record tells { said = [] }

-- those of a host reader
abbrev pub reader_told_forgotten : ReaderTells → ReaderTells
reader_told_forgotten tells = record tells { said = [] }

-- those of the host end across from an end on a side: a writer from a read end, a reader from a write end
abbrev pub forgotten_across : Side → ℕ → Tells → Tells
forgotten_across Reading n told = with_told told n (told_forgotten (told_by told n))
forgotten_across Writing r told = with_told_reader told r (reader_told_forgotten (told_by_reader told r))

-- those of all
abbrev pub all_forgotten : Tells → Tells
all_forgotten tells = record {
  writers = map told_forgotten tells.writers;
  readers = map reader_told_forgotten tells.readers;
}

-- READS AND WRITES

-- the number of the host end that has an end
abbrev pub host_number : Owner → Option ℕ
host_number (Host n) = Some n
host_number _ = None

-- the same of the end across, where the end asked for is on this side
abbrev pub number_across : Side → Side → Owner → Option ℕ
number_across Reading Reading other = host_number other
number_across Writing Writing other = host_number other
number_across _ _ other = None

-- by what is told of a handle
abbrev pub number_told : Side → Result Handle Refusal → Option ℕ
number_told side (Ok (handle.End end)) = number_across side end.side end.other
number_told side _ = None

-- the host end across from the end on a side that a handle of a guest names, if a host end is there
abbrev pub host_across : State → Side → ℕ → ℕ → Option ℕ
host_across state side guest handle = number_told side (handle_answer state guest handle)

-- a read or write: the host end across has its turn at once, and its records are forgotten; and where none is across
-- it is a step among guests
abbrev pub OperatesBy : Option ℕ → HostState → HostState → Side → Act → Result Reply StoreError → Type 0
OperatesBy (Some number) old new side act result = PollsAmong old new result act (forgotten_across side number)
OperatesBy None old new side act result = StaysBeside old new result (reaction old.state act)

-- by who is across from the end that is named
abbrev pub OperatesAmong : HostState → HostState → Side → NamedEnd → ℕ → ℕ → Result ReturnCode StoreError → Type 0
OperatesAmong old new side end address count result =
    OperatesBy (host_across old.state side end.guest end.handle) old new side (OnEnd side end (Operate address count))
    (as_reply replies.Code result)

-- with a guest across, or nobody, one never runs out of memory; nor does a read for which a host writer holds items
pub record RunsOutPolling (old : HostState) (side : Side) (end : NamedEnd) (address count : ℕ) (result : Result ReturnCode StoreError) : Type 0 where
  pub across : host_across old.state side end.guest end.handle ≡ None → result ≢ Err OutOfMemory
  pub held : RunsOutNoneHeld old.state (tells_in old) (OnEnd side end (Operate address count)) result

-- THE TURN OF ONE STREAM

-- the records of a host end across from an end on a side are forgotten, if one is there
abbrev pub forgotten_if_across : Side → Option ℕ → Tells → Tells
forgotten_if_across side None told = told
forgotten_if_across side (Some number) told = forgotten_across side number told

-- those of the host ends that have the ends of a stream
abbrev pub forgotten_on : Stream → Tells → Tells
forgotten_on stream told =
    forgotten_if_across Writing (host_number stream.reader.owner)
    (forgotten_if_across Reading (host_number stream.writer.owner) told)

-- the machine's turn of stream s, as in a drive round: there is what the host ends told in it, and the records of those
-- of the stream are forgotten before the call answers. An error is a stop, and traps the store
pub record TurnsAmong (old new : HostState) (s : ℕ) (result : Result (Unit {0}) StoreError) : Type 0 where
  pub told : Tells
  pub part : IsPart old.state new.state (tells_in old) told result (λ world. drive_turn world s) (OfTurn s)
  pub after : tells_in new ≡ forgotten_on (stream_at old.state s) told

-- the same of a stream that was made, in a store that was not trapped
pub record TurnsStream (old new : HostState) (s : ℕ) (result : Result (Unit {0}) StoreError) : Type 0 where
  pub untrapped : old.state.trapped ≡ false
  pub made : s < length old.state.streams
  pub turns : TurnsAmong old new s result

-- the turn of one stream, or why there was none
abbrev pub DrivesStream : HostState → HostState → ℕ → Result (Unit {0}) DriveError → Type 0
DrivesStream old new s (Ok v) = TurnsStream old new s (Ok v)
DrivesStream old new s (Err drives.StoreTrapped) = (old.state.trapped ≡ true) × (new ≡ old)
DrivesStream old new s (Err drives.UnknownStream) =
    (old.state.trapped ≡ false) × (length old.state.streams ≤ s) × (new ≡ old)
DrivesStream old new s (Err (drives.Stopped error)) = TurnsStream old new s (Err error)
