-- Why what is read is no tape, and what is written then. Ours.
use Rattle.std.specs.Prelude.{◌≡◌, ◌⊎◌, ◌<◌, ◌≤◌, ℕ, List, length, Option, Some, IfSome, Result, Err, MatchResult}
use Rattle.strm_codes.specs.Counters.{Rose}
use Rattle.strm_lines.specs.Text.{too_long_text, read_fault_text}
use Rattle.strm_tape.specs.Spelling.{TapeOf, IsTape, tape_spelling}
use Rattle.strm_tape_program.specs.declared.reading.NoTape.{NoTape}
use Rattle.strm_tape_program.specs.declared.reading.NoTape.TheVariants as causes
use Rattle.strm_tape_program.specs.Texts.{not_a_tape_text}

-- the most bytes of a tape that is read: 64 MiB
abbrev pub most_bytes : ℕ
most_bytes = 67108864

-- a tape has this spelling
abbrev pub IsSpelling : List ℕ → Type 0
IsSpelling bytes = (tape : TapeOf) × IsTape tape × (tape_spelling tape ≡ bytes)

-- the statuses where no tape was read
abbrev pub IsReadStatus : ℕ → Type 0
IsReadStatus status = (status ≡ 3) ⊎ (status ≡ 4) ⊎ (status ≡ 5) ⊎ (status ≡ 9) ⊎ (status ≡ 11)

-- such a status but 5 and 9, and its text, by why they come: from the bytes that the source had left, where
-- these are told, and its faults before and after
pub record IsNoTape (left : Option (List ℕ)) (before after status : ℕ) (text : List ℕ) : Type 0 where
  pub known : (status ≡ 3) ⊎ (status ≡ 4) ⊎ (status ≡ 11)
  pub too_long : status ≡ 3 → IfSome left (λ bytes. most_bytes < length bytes) × (text ≡ too_long_text)
  pub read_fault : status ≡ 4 → Rose before after × (text ≡ read_fault_text)
  pub not_a_tape : status ≡ 11 →
      IfSome left (λ bytes. (length bytes ≤ most_bytes) × ¬ IsSpelling bytes) × (text ≡ not_a_tape_text)

-- why there is no tape; nothing is said for running out of memory
abbrev pub IsWhy : Option (List ℕ) → ℕ → ℕ → NoTape → Type 0
IsWhy left before after causes.TooLong = IfSome left (λ bytes. most_bytes < length bytes)
IsWhy left before after causes.Fault = Rose before after
IsWhy left before after causes.NotSpelled = IfSome left (λ bytes. (length bytes ≤ most_bytes) × ¬ IsSpelling bytes)
IsWhy left before after causes.OutOfMemory = Unit {0}

-- the source has these bytes left, and it does not fail
pub record IsReadable (left : Option (List ℕ)) (before after : ℕ) (bytes : List ℕ) : Type 0 where
  pub left_is : left ≡ Some bytes
  pub source : ¬ Rose before after

-- which answer comes, but for faults and running out of memory, by causes that a caller sees: the tape that was
-- spelled, or that there is too much, or that there is none
pub record IsReadComplete (left : Option (List ℕ))
    (source_before source_after sink_before sink_after : ℕ) (result : Result TapeOf ℕ) : Type 0 where
  pub complete : (tape : TapeOf) → IsTape tape →
      IsReadable left source_before source_after (tape_spelling tape) →
      length (tape_spelling tape) ≤ most_bytes →
      MatchResult result (λ found. found ≡ tape) (λ status. status ≡ 9)
  pub too_long : (bytes : List ℕ) → IsReadable left source_before source_after bytes →
      most_bytes < length bytes → ¬ Rose sink_before sink_after → (result ≡ Err 3) ⊎ (result ≡ Err 9)
  pub not_a_tape : (bytes : List ℕ) → IsReadable left source_before source_after bytes →
      length bytes ≤ most_bytes → ¬ IsSpelling bytes → ¬ Rose sink_before sink_after →
      (result ≡ Err 11) ⊎ (result ≡ Err 9)
