-- Host ends are made: a host writer with its stream, and a host reader of a loose read end.
-- wasmtime, `StreamReader::new`, `FutureReader::new`, `StreamReader::pipe` and `FutureReader::pipe`. Ours: their numbers.
use Rattle.std.specs.Prelude.{◌≡◌, ℕ, true, false, [], ◌∷◌, ◌++◌, length, Result, Ok, Err}
use Rattle.strm_codes.specs.declared.codes.TransmitKind.{TransmitKind}
use Rattle.strm_codes.specs.declared.payloads.Payload.{Payload}
use Rattle.strm_codes.specs.declared.refusals.Refusal.TheVariants.{UnknownReader}
use Rattle.strm_machine.specs.State.{stream_at, is_live}
use Rattle.strm_machine.specs.declared.acts.Act.TheVariants.{OnHost}
use Rattle.strm_machine.specs.declared.acts.HostAct.TheVariants.{New, Pipe}
use Rattle.strm_machine.specs.declared.replies.Reply.TheVariants as replies
use Rattle.strm_transmit.specs.Meets.{admitted}
use Rattle.strm_transmit.specs.declared.errors.StoreError.{StoreError}
use Rattle.strm_transmit.specs.declared.errors.StoreError.TheVariants.{OutOfMemory}
use Rattle.strm_ready_ends.specs.SendQueues.{unfed}
use Rattle.strm_ready_ends.specs.ReceiveQueues.{ungranted}
use Rattle.strm_host_store.specs.HostStates.{HostState, TellsStay}
use Rattle.strm_host_store.specs.Calls.{MeetsAmong}
use Rattle.strm_host_store.specs.declared.host_store.hosting.Hosted.{Hosted}

-- a host writer more, that was fed nothing
abbrev pub joined : HostState → TransmitKind → Payload → HostState
joined host kind payload = record host { writers = host.writers ++ unfed kind payload ∷ [] }

-- a host reader more, that was granted nothing
abbrev pub reader_joined : HostState → TransmitKind → Payload → HostState
reader_joined host kind payload = record host { readers = host.readers ++ ungranted kind payload ∷ [] }

-- a host writer more gets a stream, as the machine gives it one. What keeps it from one leaves all as it was
abbrev pub MakesWriter : HostState → HostState → TransmitKind → Payload → Result Hosted StoreError → Type 0
MakesWriter old new kind payload (Ok made) =
    (made.host ≡ length old.writers)
    × (new ≡ record (joined old kind payload) { state = new.state })
    × MeetsAmong (joined old kind payload) new (Ok (replies.Number made.stream)) (OnHost made.host New)
MakesWriter old new kind payload (Err OutOfMemory) = new ≡ old
MakesWriter old new kind payload (Err error) =
    (new ≡ old)
    × MeetsAmong (joined old kind payload) (joined old kind payload) (Err error) (OnHost (length old.writers) New)

-- a host reader more gets the loose read end of a stream of its type
abbrev pub MakesReaderOf : HostState → HostState → TransmitKind → Payload → ℕ → Result Hosted StoreError → Type 0
MakesReaderOf old new kind payload stream (Ok made) =
    (made.host ≡ length old.readers)
    × (made.stream ≡ stream)
    × MeetsAmong (reader_joined old kind payload) new (Ok replies.Done) (OnHost made.host (Pipe stream))
MakesReaderOf old new kind payload stream (Err OutOfMemory) = TellsStay old new
MakesReaderOf old new kind payload stream (Err error) =
    TellsStay old new
    × MeetsAmong (reader_joined old kind payload) (reader_joined old kind payload) (Err error)
    (OnHost (length old.readers) (Pipe stream))

-- the same of a stream of which an end is there. No other has a loose read end
pub record MakesReader (old new : HostState) (stream : ℕ) (result : Result Hosted StoreError) : Type 0 where
  pub live : is_live (stream_at old.state stream) ≡ true →
      MakesReaderOf old new (stream_at old.state stream).kind (stream_at old.state stream).payload stream result
  pub dead : is_live (stream_at old.state stream) ≡ false → result ≡ admitted old.state (Err UnknownReader)
  pub same : is_live (stream_at old.state stream) ≡ false → TellsStay old new
