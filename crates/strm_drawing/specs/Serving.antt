-- What is written of a script that is drawn, and why. Ours.
use Rattle.std.specs.Prelude.{◌≡◌, ◌⊎◌, ◌≤◌, ℕ, List, Option, IfSome}
use Rattle.strm_buffers.specs.Tells.{Tells}
use Rattle.strm_input_output.specs.Serving.{IsOfSource}
use Rattle.strm_lines.specs.Lines.{lines_of, Spells, IsFirstBadLine, IsTooLong}
use Rattle.strm_lines.specs.Text.{bad_line_text}
use Rattle.strm_machine.specs.declared.steps.Step.{Step}
use Rattle.strm_session.specs.Serving.{IsStatusOfLines, IsStopStatus}
use Rattle.strm_drawing.specs.declared.pictures.Picture.{Picture}
use Rattle.strm_drawing.specs.Running.{IsPicture}
use Rattle.strm_drawing.specs.Svg.{IsSvg}

-- the text is that of the picture of a run of these steps, and the status is the run's
pub record IsDrawnRun (old new : Tells) (steps : List Step) (status : ℕ) (text : List ℕ) : Type 0 where
  pub picture : Picture
  pub is_picture : IsPicture old new steps picture
  pub text_is : IsSvg picture.blocks.items text
  pub status_is : status ≡ picture.status

-- the statuses of drawing steps
abbrev pub IsDrawStatus : ℕ → Type 0
IsDrawStatus status = (status ≡ 0) ⊎ ((5 ≤ status) × (status ≤ 9))

-- the same of the steps that the lines of an input spell
pub record IsDrawn (old new : Tells) (input : List ℕ) (status : ℕ) (text : List ℕ) : Type 0 where
  pub steps : List Step
  pub spelled : Spells (lines_of input) steps
  pub drawn : IsDrawnRun old new steps status text

-- a status but 5 and 9, and its text, of an input that is drawn, by why they come: from the bytes that the source had
-- left before and has left after, where these are told, what the host ends told before and tell after, and the
-- source's faults before and after
pub record IsOfDrawing (left rest : Option (List ℕ)) (old new : Tells)
    (before after status : ℕ) (text : List ℕ) : Type 0 where
  pub source : IsOfSource IsStatusOfLines IsTooLong left rest before after status text
  pub drawn : (status ≡ 0) ⊎ IsStopStatus status → IfSome left (λ input. IsDrawn old new input status text)
  pub bad_line : status ≡ 2 → (line : ℕ)
      × IfSome left (λ input. IsFirstBadLine (lines_of input) line) × (text ≡ bad_line_text line)
  -- where nothing is run, the host ends are as they were
  pub unrun : (1 ≤ status) → (status ≤ 4) → new ≡ old
