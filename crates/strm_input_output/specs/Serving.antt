-- Programs that read their source to its end, answer a status, and write the text that goes with it whole. Ours.
use Rattle.std.specs.Prelude.{◌≡◌, ◌≢◌, ◌⊎◌, ◌≤◌, ◌+◌, ℕ, List, length, Option, Some, IfSome}
use Rattle.std.specs.Io.KnownBytes.{Appends, Consumes, IsAtEnd}
use Rattle.strm_lines.specs.Text.{too_long_text, read_fault_text}
use Rattle.strm_codes.specs.Counters.{Rose}
use Rattle.strm_input_output.specs.Faults.{TakesPart}

-- the bytes that a source has left or a sink took, where these are told, and how many faults it had
pub record Port : Type 0 where
  pub bytes : Option (List ℕ)
  pub faults : ℕ

-- such bytes and such a count
abbrev pub port : Option (List ℕ) → ℕ → Port
port bytes faults = record { bytes = bytes; faults = faults }

-- a source gave so many bytes at most, and one more, by which it shows that there are more
abbrev pub ReadsWithin : ℕ → Option (List ℕ) → Option (List ℕ) → Type 0
ReadsWithin most old new = (front : List ℕ) × Consumes old new front × (length front ≤ most + 1)

-- the source has this input left, and neither source nor sink fails
pub record IsFaultless (left : Option (List ℕ)) (input : List ℕ)
    (source_before source_after sink_before sink_after : ℕ) : Type 0 where
  pub input_is : left ≡ Some input
  pub source : ¬ Rose source_before source_after
  pub sink : ¬ Rose sink_before sink_after

-- this status, or that of running out of memory
abbrev pub IsOr : ℕ → ℕ → Type 0
IsOr expected status = (status ≡ expected) ⊎ (status ≡ 9)

-- WHAT IS ANSWERED

-- a status but 5 and 9, and its text, of a program that reads its source to its end: what it owes to that alone,
-- from the bytes that the source had left before and has left after, where these are told, and its faults before
-- and after. A program says which statuses it has for what it read, and which input is too long
pub record IsOfSource (IsRead : ℕ → Type 0) (IsTooLong : List ℕ → Type 0)
    (left rest : Option (List ℕ)) (before after status : ℕ) (text : List ℕ) : Type 0 where
  pub known : IsRead status ⊎ ((status ≡ 3) ⊎ (status ≡ 4))
  pub too_long : status ≡ 3 → IfSome left IsTooLong × (text ≡ too_long_text)
  pub read_fault : status ≡ 4 → Rose before after × (text ≡ read_fault_text)
  -- the limit is tested first
  pub within : IsRead status → IfSome left (λ input. ¬ IsTooLong input)
  -- the source was read to its end, unless it has too much
  pub whole : IsRead status → IsAtEnd rest

-- a status and its text, by whether the program's words ask for something that it does; to others it tells how it
-- is called
pub record IsOfWords (Asked : Type 0) (usage_text : List ℕ) (IsAnswer : ℕ → List ℕ → Type 0)
    (status : ℕ) (text : List ℕ) : Type 0 where
  pub usage : status ≡ 1 → (¬ Asked) × (text ≡ usage_text)
  pub asked : status ≢ 1 → Asked × IsAnswer status text

-- WHAT IS WRITTEN

-- a text that goes with this status was written whole
abbrev pub WritesWhole : (ℕ → List ℕ → Type 0) → Option (List ℕ) → Option (List ℕ) → ℕ → Type 0
WritesWhole IsText old new status = (text : List ℕ) × IsText status text × Appends old new text

-- some bytes from the front of a text were written, and not all
abbrev pub WritesPart : (ℕ → List ℕ → Type 0) → Option (List ℕ) → Option (List ℕ) → Type 0
WritesPart IsText old new =
    (status : ℕ) × (text : List ℕ) × IsText status text × TakesPart old new text

-- with a status but 5 and 9 goes a text that a sink took; with 5 the sink failed, and took a part of one
pub record Writes (IsText : ℕ → List ℕ → Type 0) (old new : Port) (status : ℕ) : Type 0 where
  pub told : status ≢ 5 → status ≢ 9 → WritesWhole IsText old.bytes new.bytes status
  pub part : status ≡ 5 → WritesPart IsText old.bytes new.bytes
  pub write_fault : status ≡ 5 → Rose old.faults new.faults
