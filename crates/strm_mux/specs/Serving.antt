-- What the program of lanes writes, and why. Ours.
use Rattle.std.specs.Prelude.{◌≡◌, ◌≤◌, ◌⊎◌, ℕ, List, [], ◌∷◌, decimal, Option, IfSome}
use Rattle.strm_machine.specs.declared.replies.Reply.{Reply}
use Rattle.strm_machine.specs.declared.steps.Step.{Step}
use Rattle.strm_codes.specs.Counters.{Rose}
use Rattle.strm_input_output.specs.Serving.{IsFaultless, IsOr, IsOfSource, IsOfWords}
use Rattle.strm_lines.specs.Grammar.{IsBetween}
use Rattle.strm_lines.specs.Lines.{lines_of}
use Rattle.strm_lines.specs.Text.{bad_line_text}
use Rattle.strm_frames.specs.Frames.{Frame, encoding}
use Rattle.strm_mux.specs.Carrying.{AreCarried}
use Rattle.strm_mux.specs.Lines.{Puts, IsFirstBadLaneLine, IsMuxTooLong}
use Rattle.strm_mux.specs.Texts.{output_text, mux_usage_text}

-- the words behind the program's name are the bytes of a write and those of a read, each from 16 to 64
pub record AreSizes (words : List (List ℕ)) (write read : ℕ) : Type 0 where
  pub words_are : words ≡ decimal write ∷ decimal read ∷ []
  pub write_is : IsBetween 16 64 write
  pub read_is : IsBetween 16 64 read

-- the words are two such sizes
abbrev pub IsSizes : List (List ℕ) → Type 0
IsSizes words = (write : ℕ) × (read : ℕ) × AreSizes words write read

-- the text of what the lines of an input put: their frames were carried in pieces of these sizes, and so many bytes
-- moved
pub record IsCarriedBy (write read : ℕ) (input text : List ℕ) : Type 0 where
  pub given : List Frame
  pub puts : Puts (lines_of input) given
  pub steps : List Step
  pub replies : List Reply
  pub moved : ℕ
  pub carried : AreCarried write read (encoding given) steps replies moved
  pub text_is : text ≡ output_text given moved

-- the same, in pieces of the sizes that the words name
abbrev pub IsCarried : List (List ℕ) → List ℕ → List ℕ → Type 0
IsCarried words input text =
    (write : ℕ) × (read : ℕ) × AreSizes words write read × IsCarriedBy write read input text

-- the statuses of an input that was read and is within the limit
abbrev pub IsOfPuts : ℕ → Type 0
IsOfPuts status = (status ≡ 0) ⊎ (status ≡ 2)

-- a status but 5 and 9, and its text, by why they come: from the program's words, the bytes that the source
-- had left before and has left after, where these are told, and the source's faults before and after
pub record IsMuxOutput (words : List (List ℕ)) (left rest : Option (List ℕ))
    (before after status : ℕ) (text : List ℕ) : Type 0 where
  pub by_words : IsOfWords (IsSizes words) mux_usage_text
      (IsOfSource IsOfPuts IsMuxTooLong left rest before after) status text
  pub done : status ≡ 0 → IfSome left (λ input. IsCarried words input text)
  pub bad_line : status ≡ 2 → (line : ℕ)
      × IfSome left (λ input. IsFirstBadLaneLine (lines_of input) line)
      × (text ≡ bad_line_text line)

-- the statuses of the program
abbrev pub IsMuxStatus : ℕ → Type 0
IsMuxStatus status = (status ≤ 5) ⊎ (status ≡ 9)

-- which status comes, but for a fault of source or sink and for running out of memory, by causes that a caller
-- sees: lines that put something within the limit are carried; else the first bad line is told, that there is too
-- much, or how to call the program
pub record IsMuxComplete (words : List (List ℕ)) (left : Option (List ℕ))
    (source_before source_after sink_before sink_after status : ℕ) : Type 0 where
  pub complete : (input : List ℕ) (given : List Frame) → IsSizes words →
      IsFaultless left input source_before source_after sink_before sink_after →
      Puts (lines_of input) given → ¬ IsMuxTooLong input → IsOr 0 status
  pub bad_line : (input : List ℕ) (line : ℕ) → IsSizes words →
      IsFaultless left input source_before source_after sink_before sink_after →
      IsFirstBadLaneLine (lines_of input) line → ¬ IsMuxTooLong input → IsOr 2 status
  pub too_long : (input : List ℕ) → IsSizes words →
      IsFaultless left input source_before source_after sink_before sink_after →
      IsMuxTooLong input → IsOr 3 status
  pub usage : ¬ IsSizes words → ¬ Rose sink_before sink_after → IsOr 1 status
