-- Runs, and which of them is the play of a tape. Ours.
use Rattle.std.specs.Prelude.{◌≡◌, ◌≢◌, ◌⊎◌, List, [], map, false, Some, None, Result, Ok, Err, IfOk, IfErr}
use Rattle.strm_codes.specs.Types.{kind_of, payload_of}
use Rattle.strm_buffers.specs.Tells.{Tells}
use Rattle.strm_machine.specs.declared.steps.Step.{Step}
use Rattle.strm_machine.specs.declared.stops.Stop.{Stop}
use Rattle.strm_host_machine.specs.Ends.{Writer, Reader}
use Rattle.strm_host_machine.specs.World.{World}
use Rattle.strm_host_machine.specs.HostPlays.{host_play, Ends, Halts}
use Rattle.strm_session.specs.declared.runs.RunCause.TheVariants as causes
use Rattle.strm_session.specs.declared.runs.RunStop.{RunStop}
use Rattle.strm_session.specs.declared.runs.Transcript.{Transcript}
use Rattle.strm_session.specs.Records.{HostsGoOn}
use Rattle.strm_laws.specs.Starts.{run_start}
use Rattle.strm_session.specs.Runs.{received_counts, next_step, stop_of, AreOfGuests, IsWhole, HasStopped, IsDecided}
use Rattle.strm_tape.specs.Spelling.{WriterTape, ReaderTape, TapeOf}
use Rattle.strm_tape_runs.specs.Taking.{NoneHolds, writer_type, reader_type, tape_of_run}

-- this came of a run of these steps among host ends that told this before and tell that after: all that `run`
-- says of it
pub record IsRunOfSteps (old new : Tells) (steps : List Step) (end : Result Transcript RunStop) : Type 0 where
  pub ok : IfOk end (λ t. IsWhole old new steps t.replies t.store)
  pub received : IfOk end (λ t. t.moved ≡ received_counts t.store)
  pub stop : IfErr end (λ s. HasStopped old new steps s.replies s.cause)
  pub at : IfErr end (λ s. s.at ≡ next_step s.replies)
  pub goes_on : HostsGoOn old new
  pub alone : AreOfGuests steps → new ≡ old
  pub decided : IsDecided old new steps end

-- a run of these steps came to some end
abbrev pub StepsWereRun : Tells → Tells → List Step → Type 0
StepsWereRun old new steps = (end : Result Transcript RunStop) × IsRunOfSteps old new steps end

-- one did, or nothing was done
abbrev pub WasRunOrNot : Tells → Tells → List Step → Type 0
WasRunOrNot old new steps = (new ≡ old) ⊎ StepsWereRun old new steps

-- it did not stop for running out of memory
abbrev pub FoundMemory : Result Transcript RunStop → Type 0
FoundMemory end = IfErr end (λ s. s.cause ≢ causes.OutOfMemory)

-- and it did not stop for running out of memory
abbrev pub WasRunInMemory : Tells → Tells → List Step → Type 0
WasRunInMemory old new steps = (end : Result Transcript RunStop) × IsRunOfSteps old new steps end × FoundMemory end

-- a host writer of which nothing is known but what a tape has of it: its records are to come
abbrev pub taped_writer : WriterTape → Writer
taped_writer tape = record {
  kind = kind_of tape.ty;
  payload = payload_of tape.ty;
  holds = [];
  coming = tape.said;
  spoken = 0;
  closed = false;
  ended = false;
  heard = None;
}

-- and a host reader
abbrev pub taped_reader : ReaderTape → Reader
taped_reader tape = record {
  kind = kind_of tape.ty;
  payload = payload_of tape.ty;
  holds = None;
  coming = tape.said;
  spoken = 0;
  closed = false;
  heard = None;
}

-- a new store among the host ends of a tape
abbrev pub taped_world : TapeOf → World
taped_world tape = record {
  state = run_start;
  writers = map taped_writer tape.writers;
  readers = map taped_reader tape.readers;
}

-- the machine's play of a tape ends with these replies, counts and this state
pub record PlaysToEnd (tape : TapeOf) (t : Transcript) : Type 0 where
  pub end : World
  pub plays : host_play [] (taped_world tape) tape.steps ≡ Ends t.replies end
  pub state : t.store ≡ end.state
  pub counts : t.moved ≡ received_counts end.state

-- it halts so
pub record PlaysToStop (tape : TapeOf) (s : RunStop) : Type 0 where
  pub why : Stop
  pub writers : List Writer
  pub readers : List Reader
  pub plays : host_play [] (taped_world tape) tape.steps ≡ Halts s.replies why writers readers
  pub cause : stop_of s.cause ≡ Some why
  pub at : s.at ≡ next_step s.replies

-- this is what the machine's play of a tape comes to
abbrev pub IsPlayOf : TapeOf → Result Transcript RunStop → Type 0
IsPlayOf tape (Ok t) = PlaysToEnd tape t
IsPlayOf tape (Err s) = PlaysToStop tape s

-- a run of these steps came to this end and found memory, this tape has them and what the host ends added, and
-- the end is that of the machine's play of the tape
pub record IsTapedRun (old new : Tells) (steps : List Step) (tape : TapeOf) (end : Result Transcript RunStop) : Type 0 where
  pub ran : IsRunOfSteps old new steps end
  pub memory : FoundMemory end
  pub tape_is : tape ≡ tape_of_run steps old new
  pub plays : IsPlayOf tape end

-- host ends of the types of a tape's, of which none holds items
pub record AreEndsOf (tape : TapeOf) (tells : Tells) : Type 0 where
  pub writers : map writer_type tells.writers ≡ map (λ (w : WriterTape). w.ty) tape.writers
  pub readers : map reader_type tells.readers ≡ map (λ (r : ReaderTape). r.ty) tape.readers
  pub held : NoneHolds tells
