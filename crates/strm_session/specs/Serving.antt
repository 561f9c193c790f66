-- What the program writes, and why. Ours.
use Rattle.std.specs.Prelude.{◌≡◌, ◌≢◌, ◌≤◌, ◌<◌, ◌⊎◌, ℕ, List, [], ◌∷◌, length, codes, decimal, Option, Some, IfSome}
use Rattle.std.specs.Io.KnownBytes.{IsAtEnd}
use Rattle.strm_machine.specs.State.{State}
use Rattle.strm_machine.specs.declared.steps.Step.{Step}
use Rattle.strm_machine.specs.declared.replies.Reply.{Reply}
use Rattle.strm_machine.specs.declared.stops.Stop.{Stop}
use Rattle.strm_machine.specs.declared.stops.Stop.TheVariants as stops
use Rattle.strm_buffers.specs.Tells.{Tells}
use Rattle.strm_host_machine.specs.Ends.{Writer, Reader}
use Rattle.strm_host_machine.specs.World.{World}
use Rattle.strm_host_machine.specs.HostPlays.{host_play as play_among}
use Rattle.strm_host_machine.specs.HostPlays as world_plays
use Rattle.strm_codes.specs.Counters.{Rose}
use Rattle.strm_input_output.specs.Serving.{IsFaultless, IsOfSource, IsOr}
use Rattle.strm_lines.specs.Grammar.{IsU32}
use Rattle.strm_lines.specs.Generator.{generated}
use Rattle.strm_lines.specs.Lines.{lines_of, Spells, IsFirstBadLine, IsTooLong}
use Rattle.strm_session.specs.declared.runs.RunCause.{RunCause}
use Rattle.strm_session.specs.declared.runs.RunCause.TheVariants as causes
use Rattle.strm_session.specs.Records.{NoneRose, ObeyRules}
use Rattle.strm_session.specs.Runs.{start_among, AreOfGuests, received_counts, AsksBad, AsksItems, IsWhole, HasStopped}
use Rattle.strm_lines.specs.Text.{transcript_text, summary_text, stopped_text, usage_text, bad_line_text, too_long_text, read_fault_text}

-- the words behind the program's name tell it to run an input
abbrev pub TellsToRun : List (List ℕ) → Type 0
TellsToRun words = words ≡ codes "run" ∷ []

-- they tell it to run so many steps that the generator draws from a seed: numbers as in a line
pub record IsGen (words : List (List ℕ)) (n seed : ℕ) : Type 0 where
  pub words_are : words ≡ codes "gen" ∷ decimal n ∷ decimal seed ∷ []
  pub count : IsU32 n
  pub number : IsU32 seed

-- they tell it one of the two
abbrev pub IsCommand : List (List ℕ) → Type 0
IsCommand words = TellsToRun words ⊎ ((n : ℕ) × (seed : ℕ) × IsGen words n seed)

-- the text of a run of the steps that the lines of an input spell
pub record IsTranscript (old new : Tells) (input text : List ℕ) : Type 0 where
  pub steps : List Step
  pub spelled : Spells (lines_of input) steps
  pub replies : List Reply
  pub state : State
  pub run : IsWhole old new steps replies state
  pub text_is : text ≡ transcript_text replies (received_counts state)

-- the summary of a run of these steps, which are of guests alone
pub record IsSummary (old new : Tells) (steps : List Step) (text : List ℕ) : Type 0 where
  pub of_guests : AreOfGuests steps
  pub replies : List Reply
  pub state : State
  pub run : IsWhole old new steps replies state
  pub text_is : text ≡ summary_text replies (received_counts state)

-- the status by which a run stops, and the cause that it stands for
abbrev pub IsStatusOf : ℕ → RunCause → Stop → Type 0
IsStatusOf status (causes.HostFailed end) stop = (status ≡ 6) × (stop ≡ stops.HostFailed end)
IsStatusOf status (causes.HostBroke end) stop = (status ≡ 7) × (stop ≡ stops.HostBroke end)
IsStatusOf status (causes.BadItem stream) stop = (status ≡ 8) × (stop ≡ stops.BadItem stream)
IsStatusOf status causes.OutOfMemory stop = ⊥

-- the machine plays these steps to their end
abbrev pub PlaysOn : World → List Step → Type 0
PlaysOn first steps =
    (replies : List Reply) × (end : World) × (play_among [] first steps ≡ world_plays.Ends replies end)

-- it halts in them, by this stop
abbrev pub HaltsWith : World → List Step → Stop → Type 0
HaltsWith first steps stop =
    (replies : List Reply) × (writers : List Writer) × (readers : List Reader)
    × (play_among [] first steps ≡ world_plays.Halts replies stop writers readers)

-- the status of a run that the machine halts so; it never halts because a store was trapped before
abbrev pub StandsFor : ℕ → Stop → Type 0
StandsFor status (stops.HostFailed end) = status ≡ 6
StandsFor status (stops.HostBroke end) = status ≡ 7
StandsFor status (stops.BadItem stream) = status ≡ 8
StandsFor status stops.StoreTrapped = ⊥

-- the text of a run of the steps that the lines of an input spell, which stops: the machine halts there
-- by the cause that the status stands for. The laws hold of the steps before
pub record IsStopped (old new : Tells) (status : ℕ) (input text : List ℕ) : Type 0 where
  pub steps : List Step
  pub spelled : Spells (lines_of input) steps
  pub replies : List Reply
  pub cause : RunCause
  pub why : Stop
  pub status_is : IsStatusOf status cause why
  pub run : HasStopped old new steps replies cause
  pub text_is : text ≡ stopped_text replies why

-- the statuses of a run that stops
abbrev pub IsStopStatus : ℕ → Type 0
IsStopStatus status = (6 ≤ status) × (status ≤ 8)

-- the statuses of an input that was read and is within the limits
abbrev pub IsStatusOfLines : ℕ → Type 0
IsStatusOfLines status = (status ≡ 0) ⊎ ((status ≡ 2) ⊎ IsStopStatus status)

-- a status but 5 and 9, and its text, of a program that runs an input, by why they come: from the bytes that
-- the source had left before and has left after, where these are told, what the host ends told before
-- and tell after, and the source's faults before and after
pub record IsOfInput (left rest : Option (List ℕ)) (old new : Tells)
    (before after status : ℕ) (text : List ℕ) : Type 0 where
  pub source : IsOfSource IsStatusOfLines IsTooLong left rest before after status text
  pub done : status ≡ 0 → IfSome left (λ input. IsTranscript old new input text)
  pub bad_line : status ≡ 2 → (line : ℕ)
      × IfSome left (λ input. IsFirstBadLine (lines_of input) line) × (text ≡ bad_line_text line)
  pub stopped : IsStopStatus status → IfSome left (λ input. IsStopped old new status input text)
  -- where nothing is run, the host ends are as they were
  pub unrun : (1 ≤ status) → (status ≤ 4) → new ≡ old
  -- an input with too many lines was read to its end too, unless its bytes are too many
  pub whole_lines : status ≡ 3 → (input : List ℕ) → left ≡ Some input →
      length input ≤ 16777216 → IsAtEnd rest

-- the same of a program that runs the generator's steps: it never stops, and is refused exactly where they
-- and the four before them would be more than the lines of an input
pub record IsOfNumbers (old new : Tells) (n seed status : ℕ) (text : List ℕ) : Type 0 where
  pub done : n ≤ 262140 → (status ≡ 0) × IsSummary old new (generated n seed) text
  pub too_long : 262140 < n → (status ≡ 3) × (text ≡ too_long_text)
  pub hosts : new ≡ old

-- a status but 5 and 9, and its text, by what the program's words tell it
pub record IsRunOutput (words : List (List ℕ)) (left rest : Option (List ℕ)) (old new : Tells)
    (before after status : ℕ) (text : List ℕ) : Type 0 where
  pub usage : ¬ IsCommand words → (status ≡ 1) × (text ≡ usage_text) × (new ≡ old)
  pub of_input : TellsToRun words → IsOfInput left rest old new before after status text
  pub of_numbers : (n seed : ℕ) → IsGen words n seed → IsOfNumbers old new n seed status text

-- a run of these steps came to its end, or stopped
abbrev pub EndsOrStops : Tells → Tells → List Step → List Reply → Type 0
EndsOrStops old new steps replies =
    ((state : State) × IsWhole old new steps replies state)
    ⊎ ((cause : RunCause) × HasStopped old new steps replies cause)

-- the steps that the lines of an input spell were run, to their end or to a stop
pub record InputWasRun (left : Option (List ℕ)) (old new : Tells) : Type 0 where
  pub steps : List Step
  pub spelled : IfSome left (λ input. Spells (lines_of input) steps)
  pub within : IfSome left (λ input. ¬ IsTooLong input)
  pub replies : List Reply
  pub run : EndsOrStops old new steps replies

-- what is left where memory had run out for the text: host ends as they were, where nothing was run; else what the
-- run of the input did to them
abbrev pub LeavesUnwritten : Option (List ℕ) → Tells → Tells → Type 0
LeavesUnwritten left old new = (new ≡ old) ⊎ InputWasRun left old new

-- the statuses of the program
abbrev pub IsRunStatus : ℕ → Type 0
IsRunStatus status = status ≤ 9

-- the program is told to run an input in the grammar and the limits, which spells these steps, and neither source
-- nor sink fails
pub record IsRunOfInput (words : List (List ℕ)) (left : Option (List ℕ))
    (source_before source_after sink_before sink_after : ℕ) (steps : List Step) : Type 0 where
  pub run : TellsToRun words
  pub input : List ℕ
  pub faultless : IsFaultless left input source_before source_after sink_before sink_after
  pub spelled : Spells (lines_of input) steps
  pub within : ¬ IsTooLong input

-- which status comes, but for a fault of source or sink and for running out of memory, by causes that a caller sees:
-- an input in the grammar and the limits is run to its end where no host end fails, each record that one
-- added obeys the rules, and each item asked for is one; a bad item that is asked for is told, and so are
-- the first bad line, an input over the limits, and how to call the program
pub record IsComplete (words : List (List ℕ)) (left : Option (List ℕ))
    (source_before source_after sink_before sink_after : ℕ) (old new : Tells) (status : ℕ) : Type 0 where
  pub complete : (steps : List Step) →
      IsRunOfInput words left source_before source_after sink_before sink_after steps →
      NoneRose old new → ObeyRules old new → AsksItems (start_among old new) steps → IsOr 0 status
  pub bad_item : (steps : List Step) →
      IsRunOfInput words left source_before source_after sink_before sink_after steps →
      (told : List Reply) (s : ℕ) → AsksBad (start_among old new) steps told s → IsOr 8 status
  -- the machine plays them to their end on the records that were added, or halts by a stop
  pub ends : (steps : List Step) →
      IsRunOfInput words left source_before source_after sink_before sink_after steps →
      PlaysOn (start_among old new) steps → IsOr 0 status
  pub halts : (steps : List Step) →
      IsRunOfInput words left source_before source_after sink_before sink_after steps → (stop : Stop) →
      HaltsWith (start_among old new) steps stop → StandsFor status stop ⊎ (status ≡ 9)
  pub bad_line : (input : List ℕ) (line : ℕ) → TellsToRun words →
      IsFaultless left input source_before source_after sink_before sink_after →
      IsFirstBadLine (lines_of input) line → ¬ IsTooLong input → IsOr 2 status
  pub too_long : (input : List ℕ) → TellsToRun words →
      IsFaultless left input source_before source_after sink_before sink_after →
      IsTooLong input → IsOr 3 status
  pub generated : (n seed : ℕ) → IsGen words n seed → ¬ Rose sink_before sink_after → n ≤ 262140 → IsOr 0 status
  pub too_many : (n seed : ℕ) → IsGen words n seed → ¬ Rose sink_before sink_after → 262140 < n → IsOr 3 status
  pub usage : ¬ IsCommand words → ¬ Rose sink_before sink_after → IsOr 1 status
