-- How code over a store and its host ends meets the machine, whatever records are yet to come. Ours.
use Rattle.std.specs.Prelude.{◌≡◌, ℕ, ◌<◌, ◌≤◌, Bool, true, false, List, [], ◌∷◌, ◌++◌, length, drop, map, All, Option, Some, None, Result, Ok, Err}
use Rattle.strm_codes.specs.Layout.{item_type}
use Rattle.strm_codes.specs.declared.payloads.Payload.{Payload}
use Rattle.strm_memory.specs.Items.{AreItems}
use Rattle.strm_buffers.specs.declared.answers.ReaderSaid.{ReaderSaid}
use Rattle.strm_buffers.specs.Listing.{Item}
use Rattle.strm_buffers.specs.Said.{WriterSaid}
use Rattle.strm_codes.specs.Counters.{Rose}
use Rattle.strm_buffers.specs.Tells.{WriterTells, ReaderTells, Tells, told_by, told_by_reader}
use Rattle.strm_machine.specs.State.{State, empty, producer_at, consumer_at, stream_at}
use Rattle.strm_machine.specs.declared.limits.Limits.{Limits}
use Rattle.strm_machine.specs.declared.streams.Duty.{Duty}
use Rattle.strm_machine.specs.declared.streams.Duty.TheVariants.{Unused, Serves, Ended}
use Rattle.strm_machine.specs.declared.streams.Producer.{Producer}
use Rattle.strm_machine.specs.declared.streams.HostEnd.{HostEnd}
use Rattle.strm_machine.specs.declared.streams.HostEnd.TheVariants as ends
use Rattle.strm_machine.specs.declared.streams.Stream.{Stream}
use Rattle.strm_machine.specs.declared.steps.Step.{Step}
use Rattle.strm_machine.specs.declared.replies.Reply.{Reply}
use Rattle.strm_host_machine.specs.Ends.{Writer, Reader}
use Rattle.strm_host_machine.specs.World.{World}
use Rattle.strm_machine.specs.declared.stops.Stop.{Stop}
use Rattle.strm_machine.specs.declared.stops.Stop.TheVariants.{HostFailed}
use Rattle.strm_host_machine.specs.Outcomes.{Outcome, Goes, Stops}
use Rattle.strm_host_machine.specs.HostPlays.{host_play, Ends, Halts}

-- WHAT HOST ENDS SAY

-- the records that each will have in the end
pub record Logs : Type 0 where
  pub writers : List (List WriterSaid)
  pub readers : List (List ReaderSaid)

-- a log begins with what was said
abbrev pub LogBegins : {A : Type 0} → List A → List A → Type 0
LogBegins said log = log ≡ said ++ drop (length said) log

-- each log begins with what the end at its place said
abbrev pub AllBegin : {A : Type 0} → List (List A) → List (List A) → Type 0
AllBegin [] [] = Unit {0}
AllBegin (said ∷ more) (log ∷ logs) = LogBegins said log × AllBegin more logs
AllBegin [] (log ∷ logs) = ⊥
AllBegin (said ∷ more) [] = ⊥

-- what was said so far
abbrev pub saids : Tells → Logs
saids tells = record {
  writers = map (λ w. w.said) tells.writers;
  readers = map (λ r. r.said) tells.readers;
}

-- each log begins with what its end has said so far
abbrev pub Extends : Tells → Logs → Type 0
Extends tells logs =
    AllBegin (saids tells).writers logs.writers × AllBegin (saids tells).readers logs.readers

-- THE WORLD THAT THEY ARE

-- a host end that was an end of a stream, and is gone
abbrev pub is_ended : Duty → Bool
is_ended Ended = true
is_ended _ = false

-- what a writer that is gone holds is given up
abbrev pub held_while : Duty → List Item → List Item
held_while Ended items = []
held_while _ items = items

-- what the machine knows of a writer, of which it will have said this in the end
abbrev pub writer_of : Duty → WriterTells → List WriterSaid → Writer
writer_of duty tells log = record {
  kind = tells.kind;
  payload = tells.payload;
  holds = held_while duty tells.holds;
  coming = drop (length tells.said) log;
  spoken = length tells.said;
  closed = tells.closed;
  ended = is_ended duty;
  heard = tells.heard;
}

-- and of a host reader
abbrev pub reader_of : ReaderTells → List ReaderSaid → Reader
reader_of tells log = record {
  kind = tells.kind;
  payload = tells.payload;
  holds = tells.holds;
  coming = drop (length tells.said) log;
  spoken = length tells.said;
  closed = tells.closed;
  heard = tells.heard;
}

-- the first of these logs; one that is not there is empty
abbrev pub first_log : {A : Type 0} → List (List A) → List A
first_log [] = []
first_log (log ∷ logs) = log

-- the duty of the first of these
abbrev pub first_duty : List Producer → Duty
first_duty [] = Unused
first_duty (producer ∷ more) = producer.duty

-- all writers, by what is kept of them, what they tell, and their logs
abbrev pub writers_from : List Producer → List WriterTells → List (List WriterSaid) → List Writer
writers_from producers [] logs = []
writers_from producers (tells ∷ more) logs =
    writer_of (first_duty producers) tells (first_log logs)
    ∷ writers_from (drop 1 producers) more (drop 1 logs)

-- all host readers
abbrev pub readers_from : List ReaderTells → List (List ReaderSaid) → List Reader
readers_from [] logs = []
readers_from (tells ∷ more) logs = reader_of tells (first_log logs) ∷ readers_from more (drop 1 logs)

-- a store's state among its host ends, which will have said this in the end
abbrev pub world_of : State → Tells → Logs → World
world_of state tells logs = record {
  state = state;
  writers = writers_from state.producers tells.writers logs.writers;
  readers = readers_from tells.readers logs.readers;
}

-- a host writer in use is there, with its stream's kind and payload
pub record FitsWriter (stream : Stream) (tells : Tells) (n : ℕ) : Type 0 where
  pub there : n < length tells.writers
  pub kind : (told_by tells n).kind ≡ stream.kind
  pub payload : (told_by tells n).payload ≡ stream.payload

-- the same of a host reader
pub record FitsReader (stream : Stream) (tells : Tells) (r : ℕ) : Type 0 where
  pub there : r < length tells.readers
  pub kind : (told_by_reader tells r).kind ≡ stream.kind
  pub payload : (told_by_reader tells r).payload ≡ stream.payload

-- every host end in use is there, with its stream's kind and payload
pub record Fits (state : State) (tells : Tells) : Type 0 where
  pub writers : (n s : ℕ) → (producer_at state n).duty ≡ Serves s → FitsWriter (stream_at state s) tells n
  pub readers : (r s : ℕ) → (consumer_at state r).duty ≡ Serves s → FitsReader (stream_at state s) tells r

-- CALLS

-- an answer, or the cause of a stop; none by running out of memory
abbrev pub Answered : Type 0
Answered = Result Reply (Option Stop)

-- what the machine does, where memory didn't run out
abbrev pub Gives : Answered → World → Outcome → Type 0
Gives (Ok reply) after outcome = outcome ≡ Goes reply after
Gives (Err None) after outcome = Unit {0}
Gives (Err (Some stop)) after outcome = outcome ≡ Stops stop after.writers after.readers

-- the count of faults of a host end
abbrev pub faults_of : Tells → HostEnd → ℕ
faults_of tells (ends.Writer n) = (told_by tells n).faults
faults_of tells (ends.Reader n) = (told_by_reader tells n).faults

-- HostFailed comes only where that end's count of faults rose, or stands at its counter's end
abbrev pub Caused : Answered → Tells → Tells → Type 0
Caused (Err (Some (HostFailed end))) old new = Rose (faults_of old end) (faults_of new end)
Caused result old new = Unit {0}

-- the items of a writer's record are items of its payload
abbrev pub SaidFits : Payload → WriterSaid → Type 0
SaidFits payload said = AreItems (item_type payload) said.items

-- the items of all records are that a writer added since it told this
abbrev pub IsSuppliedSince : WriterTells → WriterTells → Type 0
IsSuppliedSince first tells = All (SaidFits tells.payload) (drop (length first.said) tells.said)

-- the same of each host writer
abbrev pub AreSuppliedSince : Tells → Tells → Type 0
AreSuppliedSince first tells = (n : ℕ) → IsSuppliedSince (told_by first n) (told_by tells n)

-- a call did what the machine does, on whatever records are yet to come
pub record Does (old new : State) (tells told : Tells) (result : Answered) (machine : World → Outcome) : Type 0 where
  pub begins : (logs : Logs) → Extends told logs → Extends tells logs
  pub gives : (logs : Logs) → Extends told logs →
      Gives result (world_of new told logs) (machine (world_of old tells logs))
  pub supplied : (first : Tells) → AreSuppliedSince first tells → AreSuppliedSince first told
  pub faults : (end : HostEnd) → faults_of tells end ≤ faults_of told end
  pub cause : Caused result tells told

-- RUNS

-- an unused store, and what is added to the ends' records as what is to come
abbrev pub start_world : ℕ → Limits → Tells → Tells → World
start_world tag limits old new = world_of (empty tag limits) old (saids new)

-- nothing is to come
abbrev pub world_spent : State → Tells → World
world_spent state tells = world_of state tells (saids tells)

-- a run that came to its end; its records are those that were used
abbrev pub RunsTo : World → List Step → List Reply → State → Tells → Type 0
RunsTo start_world steps replies state new = host_play [] start_world steps ≡ Ends replies (world_spent state new)

-- a run that stopped by this cause, with a store in this state
abbrev pub StopsWith : World → List Step → List Reply → Stop → Tells → State → Type 0
StopsWith start_world steps replies stop new state =
    host_play [] start_world steps ≡ Halts replies stop (world_spent state new).writers (world_spent state new).readers
