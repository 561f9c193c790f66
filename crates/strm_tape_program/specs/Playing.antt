-- What the program writes of a tape that is played, and why. Ours.
use Rattle.std.specs.Prelude.{◌≡◌, ◌≤◌, ◌⊎◌, ℕ, Bool, List, Result, Ok, Err}
use Rattle.strm_buffers.specs.Tells.{Tells}
use Rattle.strm_machine.specs.declared.stops.Stop.{Stop}
use Rattle.strm_lines.specs.Text.{transcript_text, stopped_text}
use Rattle.strm_session.specs.Serving.{IsStopStatus, IsStatusOf}
use Rattle.strm_session.specs.declared.runs.RunStop.{RunStop}
use Rattle.strm_session.specs.declared.runs.Transcript.{Transcript}
use Rattle.strm_tape.specs.Spelling.{TapeOf}
use Rattle.strm_tape_runs.specs.Taking.{tape_of_run}
use Rattle.strm_tape_runs.specs.Playing.{IsRunOfSteps, WasRunInMemory, IsPlayOf}
use Rattle.strm_tape_runs.specs.Differing.{FirstDiffer}
use Rattle.strm_tape_program.specs.Texts.{differs_text}

-- the steps of a tape were run, the host ends recorded what the tape says, and it came to what the machine's
-- play of the tape comes to
pub record IsReplay (tape : TapeOf) (old new : Tells) (end : Result Transcript RunStop) : Type 0 where
  pub run : IsRunOfSteps old new tape.steps end
  pub same : tape_of_run tape.steps old new ≡ tape
  pub plays : IsPlayOf tape end

-- the text of the whole play of a tape
pub record IsWholePlay (tape : TapeOf) (old new : Tells) (text : List ℕ) : Type 0 where
  pub end : Transcript
  pub replay : IsReplay tape old new (Ok end)
  pub text_is : text ≡ transcript_text end.replies end.moved

-- the text of a play that stops, by the cause that the status stands for
pub record IsStoppedPlay (tape : TapeOf) (old new : Tells) (status : ℕ) (text : List ℕ) : Type 0 where
  pub end : RunStop
  pub why : Stop
  pub replay : IsReplay tape old new (Err end)
  pub status_is : IsStatusOf status end.cause why
  pub text_is : text ≡ stopped_text end.replies why

-- the steps of a tape were run and found memory, and the first host end that recorded something else than the
-- tape says did so here
pub record IsOtherRun (tape : TapeOf) (old new : Tells) : Type 0 where
  pub run : WasRunInMemory old new tape.steps
  pub reader : Bool
  pub end : ℕ
  pub at : ℕ
  pub differ : FirstDiffer (tape_of_run tape.steps old new) tape reader end at

-- a status but 5 and 9, and its text, by why they come: from the tape, and what the host ends told before and
-- tell after
pub record IsOfTape (tape : TapeOf) (old new : Tells) (status : ℕ) (text : List ℕ) : Type 0 where
  pub known : (status ≡ 0) ⊎ IsStopStatus status ⊎ (status ≡ 10)
  pub done : status ≡ 0 → IsWholePlay tape old new text
  pub stopped : IsStopStatus status → IsStoppedPlay tape old new status text
  pub differs : status ≡ 10 → IsOtherRun tape old new × (text ≡ differs_text)

-- the status of a play that came out so
abbrev pub IsStatusOfPlay : ℕ → Result Transcript RunStop → Type 0
IsStatusOfPlay status (Ok t) = status ≡ 0
IsStatusOfPlay status (Err s) = (why : Stop) × IsStatusOf status s.cause why

-- the statuses of playing
abbrev pub IsPlayStatus : ℕ → Type 0
IsPlayStatus status = (status ≡ 0) ⊎ ((5 ≤ status) × (status ≤ 10))
