-- What the program writes of a script that is taken on tape, and why. Ours.
use Rattle.std.specs.Prelude.{◌≡◌, ◌≢◌, ◌⊎◌, ℕ, List, Option, Result, IfSome}
use Rattle.strm_buffers.specs.Tells.{Tells}
use Rattle.strm_machine.specs.declared.steps.Step.{Step}
use Rattle.strm_input_output.specs.Serving.{IsOfSource, IsFaultless, IsOr}
use Rattle.strm_lines.specs.Lines.{lines_of, Spells, IsFirstBadLine, IsTooLong}
use Rattle.strm_lines.specs.Text.{bad_line_text, too_long_text, read_fault_text}
use Rattle.strm_session.specs.declared.runs.RunStop.{RunStop}
use Rattle.strm_session.specs.declared.runs.Transcript.{Transcript}
use Rattle.strm_tape.specs.Spelling.{IsTape, tape_spelling}
use Rattle.strm_tape_runs.specs.Taking.{tape_of_run}
use Rattle.strm_tape_runs.specs.Playing.{IsRunOfSteps, FoundMemory, IsPlayOf}
use Rattle.strm_tape_program.specs.declared.taking.Output.{Output}
use Rattle.strm_tape_program.specs.declared.taking.Output.TheVariants.{Tape, BadLine, TooLong, Fault}

-- a run of these steps was taken on tape: the records that its host ends added are those that the machine's
-- play of the tape uses
pub record IsTaped (old new : Tells) (steps : List Step) : Type 0 where
  pub is_tape : IsTape (tape_of_run steps old new)
  pub end : Result Transcript RunStop
  pub run : IsRunOfSteps old new steps end
  pub memory : FoundMemory end
  pub plays : IsPlayOf (tape_of_run steps old new) end

-- the spelling of the tape of a run of the steps that the lines of an input spell
pub record IsTaken (old new : Tells) (input text : List ℕ) : Type 0 where
  pub steps : List Step
  pub spelled : Spells (lines_of input) steps
  pub taped : IsTaped old new steps
  pub text_is : text ≡ tape_spelling (tape_of_run steps old new)

-- the statuses of a script that was read and is within the limits
abbrev pub IsStatusOfScript : ℕ → Type 0
IsStatusOfScript status = (status ≡ 0) ⊎ (status ≡ 2)

-- a status but 5 and 9, and what is written with it, by why they come: from the bytes that the source had left
-- before and has left after, where these are told, what the host ends told before and tell after, and the
-- source's faults before and after
pub record IsOfScript (left rest : Option (List ℕ)) (old new : Tells)
    (before after status : ℕ) (text : List ℕ) : Type 0 where
  pub source : IsOfSource IsStatusOfScript IsTooLong left rest before after status text
  pub done : status ≡ 0 → IfSome left (λ input. IsTaken old new input text)
  pub bad_line : status ≡ 2 → (line : ℕ)
      × IfSome left (λ input. IsFirstBadLine (lines_of input) line) × (text ≡ bad_line_text line)
  -- where nothing is run, the host ends are as they were
  pub unrun : status ≢ 0 → new ≡ old

-- which status comes, but for faults and running out of memory, by causes that a caller sees: lines in the grammar
-- and the limits are run and taken; else the first bad line is told, or that the input is too long
pub record IsTakeComplete (left : Option (List ℕ))
    (source_before source_after sink_before sink_after status : ℕ) : Type 0 where
  pub complete : (input : List ℕ) (steps : List Step) →
      IsFaultless left input source_before source_after sink_before sink_after →
      Spells (lines_of input) steps → ¬ IsTooLong input → IsOr 0 status
  pub bad_line : (input : List ℕ) (line : ℕ) →
      IsFaultless left input source_before source_after sink_before sink_after →
      IsFirstBadLine (lines_of input) line → ¬ IsTooLong input → IsOr 2 status
  pub too_long : (input : List ℕ) →
      IsFaultless left input source_before source_after sink_before sink_after →
      IsTooLong input → IsOr 3 status

-- the statuses of taking
abbrev pub IsTakeStatus : ℕ → Type 0
IsTakeStatus status = (status ≡ 0) ⊎ (status ≡ 2) ⊎ (status ≡ 3) ⊎ (status ≡ 4) ⊎ (status ≡ 5) ⊎ (status ≡ 9)

-- the status that goes with what is written
abbrev pub status_of_output : Output → ℕ
status_of_output (Tape bytes) = 0
status_of_output (BadLine text) = 2
status_of_output TooLong = 3
status_of_output Fault = 4

-- its bytes
abbrev pub text_of : Output → List ℕ
text_of (Tape bytes) = bytes
text_of (BadLine text) = text
text_of TooLong = too_long_text
text_of Fault = read_fault_text
