-- What the program does for its words: with its source, its sink and its host ends, and by which status. Ours.
use Rattle.std.specs.Prelude.{◌≡◌, ◌≢◌, ◌⊎◌, ◌≤◌, ◌<◌, ℕ, List, [], ◌∷◌, length, codes, Result, IfSome}
use Rattle.std.specs.Io.KnownBytes.{Appends, IsAtEnd}
use Rattle.strm_buffers.specs.Tells.{Tells}
use Rattle.strm_codes.specs.Counters.{Rose}
use Rattle.strm_input_output.specs.Faults.{TakesPart}
use Rattle.strm_input_output.specs.Serving.{Port, Writes, ReadsWithin, IsOr}
use Rattle.strm_session.specs.Records.{HostsGoOn}
use Rattle.strm_session.specs.declared.runs.RunStop.{RunStop}
use Rattle.strm_session.specs.declared.runs.Transcript.{Transcript}
use Rattle.strm_tape.specs.Spelling.{TapeOf, IsTape, tape_spelling}
use Rattle.strm_tape_runs.specs.Taking.{tape_of_run}
use Rattle.strm_tape_runs.specs.Playing.{WasRunOrNot, IsPlayOf}
use Rattle.strm_drawing.specs.Serving.{IsDrawStatus, IsDrawnRun}
use Rattle.strm_tape_program.specs.Modes.{Names, NamesNone}
use Rattle.strm_tape_program.specs.declared.modes.Mode.TheVariants.{Take, Play}
use Rattle.strm_tape_program.specs.Playing.{IsOfTape, IsPlayStatus, IsStatusOfPlay}
use Rattle.strm_tape_program.specs.Reading.{IsNoTape, IsReadStatus, IsReadable, IsSpelling, most_bytes}
use Rattle.strm_tape_program.specs.Taking.{IsOfScript, IsTakeStatus, IsTakeComplete}
use Rattle.strm_tape_program.specs.Texts.{tape_usage_text}
use Rattle.strm_program_hosts.specs.HostEnds.{host_ends}
use Rattle.tape.specs.HostEnds.{followers}
use Rattle.tape.specs.declared.Shown.{Shown}
use Rattle.tape.specs.declared.Shown.TheVariants.{Replies, Picture}

-- a script of a source was taken among host ends that told this before and tell that after, and which answer
-- comes but for faults and running out of memory
pub record TakesAmong (ends after : Tells) (source source_after sink sink_after : Port) (status : ℕ) : Type 0 where
  pub known : IsTakeStatus status
  pub writes : Writes (IsOfScript source.bytes source_after.bytes ends after source.faults source_after.faults)
      sink sink_after status
  pub read : ReadsWithin 16777216 source.bytes source_after.bytes
  pub goes_on : HostsGoOn ends after
  pub complete : IsTakeComplete source.bytes source.faults source_after.faults sink.faults sink_after.faults status

-- among those of the program
abbrev pub TakesScript : Port → Port → Port → Port → ℕ → Type 0
TakesScript source source_after sink sink_after status =
    (after : Tells) × TakesAmong host_ends after source source_after sink sink_after status

-- a tape was played among host ends that told this before and tell that after, and which answer comes but for
-- faults and running out of memory
pub record PlaysAmong (ends after : Tells) (tape : TapeOf) (sink sink_after : Port) (status : ℕ) : Type 0 where
  pub known : IsPlayStatus status
  pub writes : Writes (IsOfTape tape ends after) sink sink_after status
  pub goes_on : HostsGoOn ends after
  pub complete : (end : Result Transcript RunStop) → tape_of_run tape.steps ends after ≡ tape → IsPlayOf tape end →
      ¬ Rose sink.faults sink_after.faults → IsStatusOfPlay status end ⊎ (status ≡ 9)
  pub differs : tape_of_run tape.steps ends after ≢ tape →
      ¬ Rose sink.faults sink_after.faults → IsOr 10 status
  pub out_of_memory : status ≡ 9 → WasRunOrNot ends after tape.steps

-- the run of a tape's steps among such host ends was drawn
pub record DrawsAmong (ends after : Tells) (tape : TapeOf) (sink sink_after : Port) (status : ℕ) : Type 0 where
  pub known : IsDrawStatus status
  pub writes : Writes (IsDrawnRun ends after tape.steps) sink sink_after status

-- a tape was played, and its replies or its picture were shown
abbrev pub ShowsAmong : Shown → Tells → Tells → TapeOf → Port → Port → ℕ → Type 0
ShowsAmong Replies ends after tape sink sink_after status = PlaysAmong ends after tape sink sink_after status
ShowsAmong Picture ends after tape sink sink_after status = DrawsAmong ends after tape sink sink_after status

-- among those that follow it
abbrev pub Plays : Shown → TapeOf → Port → Port → ℕ → Type 0
Plays shown tape sink sink_after status =
    (after : Tells) × ShowsAmong shown (followers tape) after tape sink sink_after status

-- the bytes that a source has left spell this tape, and they were read to their end
pub record ReadsTape (tape : TapeOf) (source source_after : Port) : Type 0 where
  pub is_tape : IsTape tape
  pub spelled : IfSome source.bytes (λ bytes. tape_spelling tape ≡ bytes)
  pub whole : IsAtEnd source_after.bytes

-- what a source has left is no tape, and why was written
pub record ReadsNone (source source_after sink sink_after : Port) (status : ℕ) : Type 0 where
  pub known : IsReadStatus status
  pub writes : Writes (IsNoTape source.bytes source.faults source_after.faults) sink sink_after status

-- the tape that a source has left was played, or it has none, and which of both comes but for faults and want of
-- memory
pub record PlaysRead (shown : Shown) (source source_after sink sink_after : Port) (status : ℕ) : Type 0 where
  pub played : ((tape : TapeOf) × ReadsTape tape source source_after × Plays shown tape sink sink_after status)
      ⊎ ReadsNone source source_after sink sink_after status
  pub read : ReadsWithin most_bytes source.bytes source_after.bytes
  pub complete : (tape : TapeOf) → IsTape tape → length (tape_spelling tape) ≤ most_bytes →
      IsReadable source.bytes source.faults source_after.faults (tape_spelling tape) →
      Plays shown tape sink sink_after status ⊎ (status ≡ 9)
  -- of a sink whose count of faults is not at its end
  pub too_long : (bytes : List ℕ) → most_bytes < length bytes →
      IsReadable source.bytes source.faults source_after.faults bytes →
      ¬ Rose sink.faults sink.faults → ¬ Rose sink.faults sink_after.faults → IsOr 3 status
  pub not_a_tape : (bytes : List ℕ) → length bytes ≤ most_bytes → ¬ IsSpelling bytes →
      IsReadable source.bytes source.faults source_after.faults bytes →
      ¬ Rose sink.faults sink_after.faults → IsOr 11 status

-- it was written how to call the program
pub record TellsUsage (sink sink_after : Port) (status : ℕ) : Type 0 where
  pub known : (status ≡ 1) ⊎ (status ≡ 5)
  pub told : status ≡ 1 → Appends sink.bytes sink_after.bytes tape_usage_text
  pub part : status ≡ 5 → TakesPart sink.bytes sink_after.bytes tape_usage_text × Rose sink.faults sink_after.faults

-- the words behind the program's name tell it to draw the run of a tape
abbrev pub TellsToDraw : List (List ℕ) → Type 0
TellsToDraw words = words ≡ codes "draw" ∷ []

-- what the program does for other words
pub record Answers (words : List (List ℕ)) (source source_after sink sink_after : Port) (status : ℕ) : Type 0 where
  pub takes : Names words Take → TakesScript source source_after sink sink_after status
  pub plays : Names words Play → PlaysRead Replies source source_after sink sink_after status
  pub usage : NamesNone words → TellsUsage sink sink_after status
  pub unread : NamesNone words → source_after ≡ source
