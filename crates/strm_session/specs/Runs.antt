-- Runs of the program: where they begin and stop, what was received, and what holds. What is said of a
-- state alone is said of runs of guests alone. Ours.
use Rattle.std.specs.Prelude.{◌≡◌, ℕ, ◌+◌, ◌≤◌, ◌<◌, min, true, false, List, [], ◌∷◌, ◌++◌, length, map, take, slice_get, All, Option, Some, None, Result, Ok, IsErr, IfErr}
use Rattle.strm_codes.specs.declared.codes.TransmitKind.TheVariants.{Future}
use Rattle.strm_machine.specs.State.{State, stream_at}
use Rattle.strm_laws.specs.Starts.{run_start}
use Rattle.strm_machine.specs.Reactions.{react}
use Rattle.strm_machine.specs.Plays.{play, Ends, Halts}
use Rattle.strm_machine.specs.Moments.{Moment}
use Rattle.strm_machine.specs.Soundness.{IsSound, both_open, AreUnmoved}
use Rattle.strm_machine.specs.declared.streams.Side.{Side}
use Rattle.strm_machine.specs.declared.acts.Act.TheVariants.{Drive}
use Rattle.strm_machine.specs.declared.streams.HostEnd.{HostEnd}
use Rattle.strm_machine.specs.declared.steps.Step.{Step}
use Rattle.strm_machine.specs.declared.replies.Reply.{Reply}
use Rattle.strm_machine.specs.declared.replies.Reply.TheVariants as replies
use Rattle.strm_laws.specs.Conservation.{moments, state_after_steps, replies_of, calls, got}
use Rattle.strm_laws.specs.Laws.{Conserves, waiting, Stands, AreCounted, HandlesHold, HandlesAreSingle, MembersAreLive, ContextsCount}
use Rattle.strm_machine.specs.Untouched.{StaysAside, LieThere}
use Rattle.strm_machine.specs.Acts.{act_of}
use Rattle.strm_machine.specs.declared.stops.Stop.{Stop}
use Rattle.strm_machine.specs.declared.stops.Stop.TheVariants as stops
use Rattle.strm_codes.specs.Counters.{Rose}
use Rattle.strm_buffers.specs.Tells.{Tells}
use Rattle.strm_machine.specs.Hosting.{HostsHold}
use Rattle.strm_host_machine.specs.World.{World, writer_at, reader_at, stream_in}
use Rattle.strm_host_machine.specs.HostPlays.{host_play as play_among}
use Rattle.strm_host_machine.specs.HostPlays as world_plays
use Rattle.strm_transmit.specs.OutOfMemory.{FailsOnce, HoldsBefore, RunsOutIn, up_to_offer}
use Rattle.strm_host_machine.specs.Outcomes.{Goes}
use Rattle.strm_host_machine.specs.Steps.{outcome_of_step}
use Rattle.strm_host_machine.specs.Asking.{GuestAsksBad, AsksBadItem, ByGuest, stands_at}
use Rattle.strm_host_machine.specs.Does.{saids, world_spent, world_of, faults_of, Does, RunsTo, StopsWith}
use Rattle.strm_transmit.specs.Guests.{is_of_guests}
use Rattle.strm_host_laws.specs.HostMoments.{HostMoment, host_moments, first_moments, end_world}
use Rattle.strm_host_laws.specs.Isolation.{AreIsolated}
use Rattle.strm_host_laws.specs.HostLaws.{ClosesExactly, WriterGoesOn, WriterHalts, Supplies, DeliversAll, ReadersCloseExactly, ReaderGoesOn, ReaderHalts, TellsTaken, host_got, ConservesAmong, MovesByHosts, is_hosted, was_piped, plains}
use Rattle.strm_session.specs.Records.{StopsByRecord, RulesKept, StopRules, ObeyRules, NoneRose}
use Rattle.strm_session.specs.declared.runs.RunCause.{RunCause}
use Rattle.strm_session.specs.declared.runs.RunStop.{RunStop}
use Rattle.strm_session.specs.declared.runs.Transcript.{Transcript}
use Rattle.strm_session.specs.declared.runs.RunCause.TheVariants as causes

-- a run among host ends that tell this, and will tell that in the end, begins with the store of `run_start`: what
-- they add to their records meanwhile is what is to come
abbrev pub start_among : Tells → Tells → World
start_among old new = world_of run_start old (saids new)

-- there is room for these host ends in a run: a step names one of 64 on a side
abbrev pub HaveRoom : Tells → Type 0
HaveRoom tells = (length tells.writers ≤ 64) × (length tells.readers ≤ 64)

-- steps of guests alone: host ends have no part in any
abbrev pub AreOfGuests : List Step → Type 0
AreOfGuests steps = All (λ step. is_of_guests (act_of step) ≡ true) steps

-- what was received on each stream, in items
abbrev pub received_counts : State → List ℕ
received_counts state = map (λ s. s.received) state.streams

-- the number of the step behind those that were answered, from 1, and not above the last number
abbrev pub next_step : List Reply → ℕ
next_step told = min (length told + 1) 4294967295

-- the laws of a run with these moments, which ends here: on each stream what was received is what was
-- handed over, and what both ends report; a read or write that waits has moved what it says, and one
-- that has not met nothing; a future passes one item at most; never are two sides open; the items of
-- each operation are a count; handles and ends agree, one handle an end; members of sets are live; error
-- contexts count their handles; and the state is sound
pub record HasLaws (all : List Moment) (end : State) : Type 0 where
  pub conserves : (s : ℕ) → Conserves s all end
  pub stands : (s : ℕ) (side : Side) →
      Stands (stream_at end s).payload (waiting s side end) (calls s side all)
  pub passes_one : (s : ℕ) → (stream_at end s).kind ≡ Future → length (got s all) ≤ 1
  pub apart : (s : ℕ) → both_open (stream_at end s) ≡ false
  pub unmoved : (s : ℕ) → AreUnmoved (stream_at end s)
  pub counted : (s : ℕ) → AreCounted (stream_at end s)
  pub hold : HandlesHold end
  pub single : HandlesAreSingle end
  pub members : MembersAreLive end
  pub contexts : ContextsCount end
  pub sound : IsSound end

-- the replies are those of the run's moments, and the state is that after the last; the laws hold
-- after each step, the last one too, in each all bytes stay that are neither put nor received, and those
-- that are put lie there
pub record IsRunKept (steps : List Step) (replies : List Reply) (end : State) : Type 0 where
  pub told : replies ≡ replies_of (moments run_start steps)
  pub ends : end ≡ state_after_steps run_start steps
  pub laws : (n : ℕ) → HasLaws (moments run_start (take n steps)) (state_after_steps run_start (take n steps))
  pub aside : All StaysAside (moments run_start steps)
  pub put : All LieThere (moments run_start steps)

-- AMONG HOST ENDS

-- the laws of host writers in a run from this world with these moments, which ends here: exactly those that
-- became gone were closed; each used its records in order and heard exactly the feeds to it; what each
-- produced is received in order, by whichever end, held, or given up at its end, if its records are of items
pub record HasWriterLaws (first : World) (all : List HostMoment) (end : World) : Type 0 where
  pub closes : ClosesExactly first end.state end.writers
  pub goes_on : (n : ℕ) → WriterGoesOn n all (writer_at first n) (writer_at end n)
  pub delivers : ((n : ℕ) → Supplies (writer_at first n)) → (s : ℕ) → DeliversAll s all end

-- the laws of host readers in it: exactly those that became gone were closed; each used its records in order
-- and heard exactly the grants to it; what was taken of each stream are items; and one that tells what it took
-- has, behind what it had at first, exactly what was taken of its stream
pub record HasReaderLaws (first : World) (all : List HostMoment) (end : World) : Type 0 where
  pub closes : ReadersCloseExactly first end.state end.readers
  pub goes_on : (r : ℕ) → ReaderGoesOn r all (reader_at first r) (reader_at end r)
  pub tells : (s r : ℕ) → TellsTaken s r all (reader_at first r) (reader_at end r)

-- on each stream of which no host end had an end what was received is what was handed over, and what both
-- ends report; a read or write that waits has moved what it says, and one that has not met nothing; a future
-- passes one item at most
pub record HasStreamLaws (s : ℕ) (all : List HostMoment) (end : World) : Type 0 where
  pub conserves : Conserves s (plains all) end.state
  pub stands : (side : Side) →
      Stands (stream_in end s).payload (waiting s side end.state) (calls s side (plains all))
  pub passes_one : (stream_in end s).kind ≡ Future → length (got s (plains all)) ≤ 1
  pub unmoved : AreUnmoved (stream_in end s)

-- on a stream that guests write what was received, by whichever end, is what was handed over; a read or write
-- that waits has moved what it says; a future passes one item at most
pub record HasWrittenLaws (s : ℕ) (all : List HostMoment) (end : World) : Type 0 where
  pub conserves : ConservesAmong s all end.state
  pub passes_one : (stream_in end s).kind ≡ Future → length (host_got s all) ≤ 1
  pub stands : (side : Side) →
      Stands (stream_in end s).payload (waiting s side end.state) (calls s side (plains all))

-- those, and: host ends and streams agree; never are two sides open, no guest writes on a host writer's
-- stream, and none reads on a host reader's; what has not met is moved by a host end alone; the items of each
-- operation are a count; in each moment all bytes stay that are neither put nor received, and those that are
-- put lie there; handles and ends agree, one handle an end; members of sets are live; error contexts count
-- their handles; the state is sound; and the codes of each stream are those of its own events, and what is no
-- event of it leaves it whole
pub record HasLawsAmong (first : World) (all : List HostMoment) (end : World) : Type 0 where
  pub writers : HasWriterLaws first all end
  pub readers : HasReaderLaws first all end
  pub hosts : HostsHold end.state
  pub streams : (s : ℕ) → is_hosted s all ≡ false → was_piped s all ≡ false → HasStreamLaws s all end
  pub written : (s : ℕ) → is_hosted s all ≡ false → HasWrittenLaws s all end
  pub apart : (s : ℕ) → both_open (stream_in end s) ≡ false
  pub unwritten : (s : ℕ) → is_hosted s all ≡ true → (stream_in end s).writer.operation ≡ None
  pub unread : (s : ℕ) → was_piped s all ≡ true → (stream_in end s).reader.operation ≡ None
  pub moves : (s : ℕ) → MovesByHosts (stream_in end s)
  pub counted : (s : ℕ) → AreCounted (stream_in end s)
  pub aside : All StaysAside (plains all)
  pub put : All LieThere (plains all)
  pub hold : HandlesHold end.state
  pub single : HandlesAreSingle end.state
  pub members : MembersAreLive end.state
  pub contexts : ContextsCount end.state
  pub sound : IsSound end.state
  pub isolated : AreIsolated all end

-- the laws after the first so many moments of these steps, where each turn in a drive round is one, up to where a
-- step stops
abbrev pub HasLawsFirst : ℕ → World → List Step → Type 0
HasLawsFirst count first steps =
    HasLawsAmong first (first_moments count first steps) (end_world first (first_moments count first steps))

-- a run of these steps leads from one world to the other, and the laws hold after each step, the last one too, and
-- in a drive round after each stream's turn
pub record IsKeptAmong (first : World) (steps : List Step) (end : World) : Type 0 where
  pub ends : end_world first (host_moments first steps) ≡ end
  pub laws : (n count : ℕ) → HasLawsFirst count first (take n steps)

-- what the host writer of each stream produced in a run of these steps, which ends here, is received, held
-- or given up
abbrev pub DeliversEach : World → List Step → World → Type 0
DeliversEach first steps end = (s : ℕ) → DeliversAll s (host_moments first steps) end

-- these are the machine's replies to the first of the steps, which keep the laws
pub record IsKeptBefore (first : World) (steps : List Step) (told : List Reply) : Type 0 where
  pub world : World
  pub before : play_among [] first (take (length told) steps) ≡ world_plays.Ends told world
  pub kept : IsKeptAmong first (take (length told) steps) world

-- why the machine stops where a run does; none for running out of memory
abbrev pub stop_of : RunCause → Option Stop
stop_of (causes.HostFailed end) = Some (stops.HostFailed end)
stop_of (causes.HostBroke end) = Some (stops.HostBroke end)
stop_of (causes.BadItem s) = Some (stops.BadItem s)
stop_of causes.OutOfMemory = None

-- the machine's state where it halts, behind the last moment that was done: in the one that stops it no host end
-- becomes an end of a stream, or is gone
abbrev pub halted_in : World → List Step → State
halted_in first steps = (end_world first (host_moments first steps)).state

-- the machine halts behind these replies by this stop, and the host ends tell what they do in its state there;
-- nothing is said for running out of memory
abbrev pub HaltsBy : World → List Step → List Reply → Tells → Option Stop → Type 0
HaltsBy first steps told new None = Unit {0}
HaltsBy first steps told new (Some stop) = StopsWith first steps told stop new (halted_in first steps)

-- a host end that failed has raised its count of faults, or that stands at its counter's end
abbrev pub Raised : Tells → Tells → RunCause → Type 0
Raised old new (causes.HostFailed end) = Rose (faults_of old end) (faults_of new end)
Raised old new _ = Unit {0}

-- A BAD ITEM

-- the step behind these replies, in the world that the steps before it lead to, asks for items on stream s
-- of which one is none
pub record AsksBad (first : World) (steps : List Step) (told : List Reply) (s : ℕ) : Type 0 where
  pub world : World
  pub before : play_among [] first (take (length told) steps) ≡ world_plays.Ends told world
  pub step : Step
  pub next : slice_get steps (length told) ≡ Some step
  pub bad : AsksBadItem world step s

-- each item that a run of these steps asks for is an item
abbrev pub AsksItems : World → List Step → Type 0
AsksItems first steps = (told : List Reply) (s : ℕ) → ¬ AsksBad first steps told s

-- where guests meet nothing changes but that the store is trapped
abbrev pub StaysThere : (world : World) (step : Step) (s : ℕ) → AsksBadItem world step s → Type 0
StaysThere world step s (ByGuest asks) = (react world.state step).state ≡ record world.state { trapped = true }
StaysThere world step s _ = Unit {0}

-- a run stops behind these replies at a bad item of stream s: the step asks for it, and nothing moves. What
-- the host ends tell then is what they told just before, but for the record of the host reader that asked
pub record StopsBad (first : World) (steps : List Step) (told : List Reply) (new : Tells) (s : ℕ) : Type 0 where
  pub asks : AsksBad first steps told s
  pub stays : StaysThere asks.world asks.step s asks.bad
  pub writers : (world_spent (halted_in first steps) new).writers ≡ (stands_at asks.world asks.step s asks.bad).writers
  pub readers : (world_spent (halted_in first steps) new).readers ≡ (stands_at asks.world asks.step s asks.bad).readers

-- where a run stops at a bad item, it does so
abbrev pub StopsAsking : World → List Step → List Reply → Tells → RunCause → Type 0
StopsAsking first steps told new (causes.BadItem s) = StopsBad first steps told new s
StopsAsking first steps told new _ = Unit {0}

-- behind so many replies memory runs out before the step that asks, or in it where it polls a host reader: a
-- step in which guests meet takes none
abbrev pub RunsOutBy : (world : World) (step : Step) (s : ℕ) → AsksBadItem world step s → ℕ → ℕ → Type 0
RunsOutBy world step s (ByGuest asks) wanted asked = wanted < asked
RunsOutBy world step s _ wanted asked = wanted ≤ asked

-- a run that stops so stops at this bad item, or for running out of memory before its step or, where that polls a
-- host reader, in it
abbrev pub StopsIn : (first : World) (steps : List Step) (told : List Reply) (s : ℕ) →
    AsksBad first steps told s → List Reply → RunCause → Type 0
StopsIn first steps told s asks replies (causes.BadItem stream) = (replies ≡ told) × (stream ≡ s)
StopsIn first steps told s asks replies causes.OutOfMemory =
    RunsOutBy asks.world asks.step s asks.bad (length replies) (length told)
StopsIn first steps told s asks replies (causes.HostFailed end) = ⊥
StopsIn first steps told s asks replies (causes.HostBroke end) = ⊥

-- where memory had run out, guests do not meet at a bad item in the next step, if there is one
abbrev pub RunsOutUnmet : World → List Step → List Reply → RunCause → Type 0
RunsOutUnmet world steps told causes.OutOfMemory =
    (step : Step) (s : ℕ) → slice_get steps (length told) ≡ Some step → ¬ GuestAsksBad world step s
RunsOutUnmet world steps told _ = Unit {0}

-- WHAT HOST ENDS TELL THEN

-- where the machine halts, exactly those host ends that became gone were closed
abbrev pub StopCloses : World → List Step → Tells → Option Stop → Type 0
StopCloses first steps new None = Unit {0}
StopCloses first steps new (Some stop) =
    let state = halted_in first steps in
    ClosesExactly first state (world_spent state new).writers × ReadersCloseExactly first state (world_spent state new).readers

-- where the machine halts, each host end used the records of its polls there, and heard no more than before
abbrev pub StopUses : World → List Step → Tells → Option Stop → Type 0
StopUses first steps new None = Unit {0}
StopUses first steps new (Some stop) =
    let state_after_steps = end_world first (host_moments first steps) in
    ((n : ℕ) → WriterHalts (writer_at state_after_steps n) (writer_at (world_spent state_after_steps.state new) n))
    × ((r : ℕ) → ReaderHalts (reader_at state_after_steps r) (reader_at (world_spent state_after_steps.state new) r))

-- the step behind these replies is a drive round, in which memory ran out before items that a host writer holds
-- itself were offered along a pipe: host ends tell what they told then
pub record RunsOutOffer (old new : Tells) (steps : List Step) (told : List Reply) : Type 0 where
  pub world : World
  pub before : play_among [] (start_among old new) (take (length told) steps) ≡ world_plays.Ends told world
  pub step : Step
  pub next : slice_get steps (length told) ≡ Some step
  pub drives : act_of step ≡ Drive
  pub stream : ℕ
  pub writer : ℕ
  pub reader : ℕ
  pub state : State
  pub behind : up_to_offer stream writer reader world ≡ Goes replies.Done (world_spent state new)
  pub holds : HoldsBefore stream writer reader state new

-- what host ends tell where memory had run out: what they told behind these replies, or behind one more, which was
-- not kept; or what they would tell had one that was polled failed in that poll, with no items, so that the machine
-- halted behind these replies, but for its record of it; or what they told in a drive round before an offer
pub data RunsOutThere (old new : Tells) (steps : List Step) (told : List Reply) : Type 0 where
  Before : (state : State) → play_among [] (start_among old new) (take (length told) steps) ≡ world_plays.Ends told (world_spent state new) →
      RunsOutThere old new steps told
  Behind : (reply : Reply) (state : State) →
      play_among [] (start_among old new) (take (length told + 1) steps) ≡ world_plays.Ends (told ++ reply ∷ []) (world_spent state new) →
      RunsOutThere old new steps told
  InPoll : (end : HostEnd) (more : Tells) → FailsOnce end new more →
      HaltsBy (start_among old more) steps told more (Some (stops.HostFailed end)) →
      RunsOutThere old new steps told
  BeforeOffer : RunsOutOffer old new steps told → RunsOutThere old new steps told

-- the same of a run that stops by this cause
abbrev pub StopsOutOfMemory : Tells → Tells → List Step → List Reply → Option Stop → Type 0
StopsOutOfMemory old new steps told None = RunsOutThere old new steps told
StopsOutOfMemory old new steps told (Some stop) = Unit {0}

-- a step that found no memory may have polled a host end; else it changed nothing, or was done, and its reply
-- was not kept
pub data RunsOutStep (old new : State) (tells told : Tells) (step : Step) : Type 0 where
  Polling : RunsOutIn old tells told (act_of step) → RunsOutStep old new tells told step
  Untouched : new ≡ old → told ≡ tells → RunsOutStep old new tells told step
  Unkept : (reply : Reply) → Does old new tells told (Ok reply) (λ world. outcome_of_step world step) →
      RunsOutStep old new tells told step

-- the same of a step that stops a run by this cause
abbrev pub LeavesOutOfMemory : State → State → Tells → Tells → Step → RunCause → Type 0
LeavesOutOfMemory old new tells told step causes.OutOfMemory = RunsOutStep old new tells told step
LeavesOutOfMemory old new tells told step _ = Unit {0}

-- WHERE IT STOPS

-- a run stops behind these replies, which are the machine's to the steps before, and by this cause
pub record StopsAmong (old new : Tells) (steps : List Step) (told : List Reply) (cause : RunCause) : Type 0 where
  pub world : World
  pub before : play_among [] (start_among old new) (take (length told) steps) ≡ world_plays.Ends told world
  pub halts : HaltsBy (start_among old new) steps told new (stop_of cause)
  pub raised : Raised old new cause
  pub asks : StopsAsking (start_among old new) steps told new cause
  pub unmet : RunsOutUnmet world steps told cause

-- OF GUESTS ALONE

-- why a step of guests alone stops a run: it asks for a bad item; or memory had run out, where the
-- machine goes on from it
abbrev pub StopsStep : List Reply → State → Step → RunCause → Type 0
StopsStep told state step (causes.BadItem s) = (react state step).reply ≡ replies.BadItem s
StopsStep told state step causes.OutOfMemory =
    (reply : Reply) × (next : State) × (play told state (step ∷ []) ≡ Ends (told ++ reply ∷ []) next)
StopsStep told state step (causes.HostFailed end) = ⊥
StopsStep told state step (causes.HostBroke end) = ⊥

-- a run stops for running out of memory: the machine goes on from the step behind these replies, or there
-- is none
abbrev pub RunGoesOn : List Step → List Reply → Type 0
RunGoesOn steps told =
    (more : List Reply) × (state : State)
    × (play [] run_start (take (length told + 1) steps) ≡ Ends (told ++ more) state)

-- why a run stops behind these replies: the machine without host ends halts there at a bad item, or memory
-- was wanted
abbrev pub StopsAt : List Step → List Reply → RunCause → Type 0
StopsAt steps told (causes.BadItem s) = play [] run_start steps ≡ Halts told (replies.BadItem s)
StopsAt steps told causes.OutOfMemory = RunGoesOn steps told
StopsAt steps told (causes.HostFailed end) = ⊥
StopsAt steps told (causes.HostBroke end) = ⊥

-- a run stops behind these replies: they are the machine's to the steps before, which keep the laws
pub record StopsBy (steps : List Step) (told : List Reply) (cause : RunCause) : Type 0 where
  pub state : State
  pub before : play [] run_start (take (length told) steps) ≡ Ends told state
  pub kept : IsRunKept (take (length told) steps) told state
  pub at : StopsAt steps told cause

-- WHOLE RUNS

-- a run of these steps comes to its end: it is the machine's play on them and on the records that host ends
-- added, exactly those: none is left, and none is wanting; none says that its end failed, and each keeps the
-- rules; the laws of every run hold of it. What each host writer produced is received, held or given up. Of
-- guests alone it is the machine's without host ends
pub record IsWhole (old new : Tells) (steps : List Step) (replies : List Reply) (state : State) : Type 0 where
  pub played : RunsTo (start_among old new) steps replies state new
  pub kept_among : IsKeptAmong (start_among old new) steps (world_spent state new)
  pub delivers : DeliversEach (start_among old new) steps (world_spent state new)
  pub rules : RulesKept old new
  pub alone : AreOfGuests steps → play [] run_start steps ≡ Ends replies state
  pub kept : AreOfGuests steps → IsRunKept steps replies state

-- a run of these steps stops behind these replies, by this cause: they are the machine's to the steps before,
-- which keep the laws, as do the turns of a drive round before the one that stopped. A host end that failed, or
-- broke the rules of its kind, says so by its last record, which it made in this run, and no other record that was
-- added does; and a bad item was asked for. Exactly the host ends that became gone were closed, and they used and
-- heard no more than what the laws say but for the records of the step that stopped. Where memory had run out, they
-- tell what they did before it, or had one of them failed there. Of guests alone it stops as without host ends
pub record HasStopped (old new : Tells) (steps : List Step) (replies : List Reply) (cause : RunCause) : Type 0 where
  pub stops : StopsAmong old new steps replies cause
  pub by_record : StopsByRecord old new (stop_of cause)
  pub rules : StopRules (stop_of cause) old new
  pub closes : StopCloses (start_among old new) steps new (stop_of cause)
  pub uses : StopUses (start_among old new) steps new (stop_of cause)
  pub out_of_memory : StopsOutOfMemory old new steps replies (stop_of cause)
  pub kept_before : IsKeptBefore (start_among old new) steps replies
  pub kept_until : (count : ℕ) → HasLawsFirst count (start_among old new) (take (length replies + 1) steps)
  pub alone : AreOfGuests steps → StopsBy steps replies cause

-- how a run of these steps comes out, by causes that a caller sees: out of memory is its one error where no
-- host end fails, each record that one added obeys the rules, and each item asked for is one; and it stops
-- at a bad item that is asked for
pub record IsDecided (old new : Tells) (steps : List Step) (result : Result Transcript RunStop) : Type 0 where
  pub complete : NoneRose old new → ObeyRules old new → AsksItems (start_among old new) steps →
      IfErr result (λ stop. stop.cause ≡ causes.OutOfMemory)
  pub bad_item : (told : List Reply) (s : ℕ) (asks : AsksBad (start_among old new) steps told s) →
      IsErr result
      × IfErr result (λ stop. StopsIn (start_among old new) steps told s asks stop.replies stop.cause)
