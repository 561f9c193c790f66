-- What is to be written for an input that was read. Ours.
use Rattle.std.specs.Prelude.{◌≡◌, ◌⊎◌, ℕ, List}
use Rattle.strm_lines.specs.Lines.{lines_of}
use Rattle.strm_lines.specs.Text.{bad_line_text}
use Rattle.strm_mux.specs.Lines.{IsFirstBadLaneLine}
use Rattle.strm_mux.specs.Serving.{IsCarriedBy}

-- a status and its text, by why they come, where the words name these sizes
pub record AnswersInput (write read : ℕ) (input : List ℕ)
    (status : ℕ) (text : List ℕ) : Type 0 where
  pub known : (status ≡ 0) ⊎ (status ≡ 2)
  pub done : status ≡ 0 → IsCarriedBy write read input text
  pub bad_line : status ≡ 2 → (line : ℕ) × IsFirstBadLaneLine (lines_of input) line
      × (text ≡ bad_line_text line)
