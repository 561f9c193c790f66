-- One step of the machine with host ends.
-- Canonical ABI, the built-ins; wasmtime, futures_and_streams.rs, where they find a host end.
use Rattle.std.specs.Prelude.{ℕ, Bool, true, false, if◌then◌else◌, Option, Some, None}
use Rattle.strm_codes.specs.declared.refusals.Refusal.{Refusal}
use Rattle.strm_machine.specs.State.{State, stream_at, is_host}
use Rattle.strm_machine.specs.Sides.{opposite, end_of, with_operation}
use Rattle.strm_machine.specs.Meetings.{begun}
use Rattle.strm_machine.specs.Tests.{named, stream_named, items_asked}
use Rattle.strm_machine.specs.Acts.{act_of}
use Rattle.strm_machine.specs.Reactions.{reaction}
use Rattle.strm_machine.specs.declared.streams.Owner.{Owner}
use Rattle.strm_machine.specs.declared.streams.Owner.TheVariants.{Host}
use Rattle.strm_machine.specs.declared.streams.Side.{Side}
use Rattle.strm_machine.specs.declared.streams.Side.TheVariants.{Writing, Reading}
use Rattle.strm_machine.specs.declared.streams.Operation.{Operation}
use Rattle.strm_machine.specs.declared.acts.NamedEnd.{NamedEnd}
use Rattle.strm_machine.specs.declared.acts.EndAct.TheVariants.{Operate, Drop}
use Rattle.strm_machine.specs.declared.acts.LooseAct.TheVariants.{Close}
use Rattle.strm_machine.specs.declared.acts.HostAct.{HostAct}
use Rattle.strm_machine.specs.declared.acts.HostAct.TheVariants.{New, Feed, Pipe, Grant}
use Rattle.strm_machine.specs.declared.acts.Act.{Act}
use Rattle.strm_machine.specs.declared.acts.Act.TheVariants.{OnEnd, OnLoose, OnHost, Drive}
use Rattle.strm_machine.specs.declared.steps.Step.{Step}
use Rattle.strm_machine.specs.declared.replies.Reply.TheVariants as replies
use Rattle.strm_host_machine.specs.Ends.{fed_writer, granted_reader}
use Rattle.strm_host_machine.specs.World.{World, stream_in, writer_at, reader_at, with_writer, with_reader, with_stream_in}
use Rattle.strm_machine.specs.declared.stops.Stop.TheVariants.{StoreTrapped}
use Rattle.strm_host_machine.specs.Outcomes.{Outcome, Goes, stops, then_on, done, reacted}
use Rattle.strm_host_machine.specs.Settling.{turn_answered}
use Rattle.strm_host_machine.specs.WriterTurn.{writer_turn}
use Rattle.strm_host_machine.specs.ReaderTurn.{reader_turn}
use Rattle.strm_host_machine.specs.Driving.{driven, round_of}
use Rattle.strm_host_machine.specs.Attaching.{hosts_new, pipes, forsakes}
use Rattle.strm_host_machine.specs.HostRefusals.{refusal_in}

-- HOW A STEP MAY TOUCH A HOST END

-- by a read or write of the end that is named, by the drop of the end on a side of a stream, by what is
-- done to a host end, or by a drive round
pub data Touch : Type 0 where
  Operates : Side → NamedEnd → ℕ → ℕ → Touch
  Drops : ℕ → Side → Touch
  Hosts : ℕ → HostAct → Touch
  Drives : Touch
  TouchesNone : Touch

-- how an act may
abbrev pub touch_of : State → Act → Touch
touch_of state (OnEnd side end (Operate address count)) = Operates side end address count
touch_of state (OnEnd side end Drop) = Drops (stream_named (named state end)) side
touch_of state (OnLoose reader Close) = Drops reader Reading
touch_of state (OnHost n act) = Hosts n act
touch_of state Drive = Drives
touch_of state act = TouchesNone

-- WHAT A STEP DOES

-- what the machine does where no host end is touched
abbrev pub reacts : World → Act → Outcome
reacts world act = reacted world (reaction world.state act)

-- a read opens on stream s, and host writer n has its turn at once
abbrev pub reads_from : World → ℕ → ℕ → Operation → Outcome
reads_from world s n read =
    let opened = with_stream_in world s (with_operation Reading (stream_in world s) read) in
    then_on (writer_turn opened s n read) (λ after. turn_answered after s Reading)

-- a write opens on stream s, and host reader r has its turn at once
abbrev pub writes_to : World → ℕ → ℕ → Operation → Outcome
writes_to world s r write =
    let opened = with_stream_in world s (with_operation Writing (stream_in world s) write) in
    then_on (reader_turn opened s r write) (λ after. turn_answered after s Writing)

-- a read or write of the end on a side, by the owner of the other end
abbrev pub operates_by : World → Side → NamedEnd → ℕ → ℕ → Owner → Outcome
operates_by world Reading end address count (Host n) =
    reads_from world (stream_named (named world.state end)) n
    (begun end.guest address (items_asked end.ty count))
operates_by world Writing end address count (Host r) =
    writes_to world (stream_named (named world.state end)) r
    (begun end.guest address (items_asked end.ty count))
operates_by world side end address count _ = reacts world (OnEnd side end (Operate address count))

-- a read or write of the end that is named
abbrev pub operates_in : World → Side → NamedEnd → ℕ → ℕ → Outcome
operates_in world side end address count =
    let stream = stream_in world (stream_named (named world.state end)) in
    operates_by world side end address count (end_of (opposite side) stream).owner

-- a step that drops the end on a side of stream s: a host end on the other side goes with it
abbrev pub drops_in : World → ℕ → Side → Act → Outcome
drops_in world s side act =
    let dropped = reacts world act in
    if is_host (end_of (opposite side) (stream_in world s)).owner then forsakes dropped s side else dropped

-- what is done to host end n
abbrev pub on_host : World → ℕ → HostAct → Outcome
on_host world n New = hosts_new world n
on_host world n (Feed bytes) = done (with_writer world n (fed_writer (writer_at world n) bytes))
on_host world r (Pipe reader) = pipes world reader r
on_host world r (Grant count) = done (with_reader world r (granted_reader (reader_at world r) count))

-- what a step does, by how it may touch a host end: else it does what it does without them
abbrev pub performs_by : World → Act → Touch → Outcome
performs_by world act (Operates side end address count) = operates_in world side end address count
performs_by world act (Drops s side) = drops_in world s side act
performs_by world act (Hosts n host_act) = on_host world n host_act
performs_by world act Drives = driven world (round_of world)
performs_by world act TouchesNone = reacts world act

-- what a step does where nothing refuses it
unfoldable pub performs_in : World → Act → Outcome
performs_in world act = performs_by world act (touch_of world.state act)

-- a refused step changes nothing, and uses no record
abbrev pub unless_refused_in : World → Act → Option Refusal → Outcome
unless_refused_in world act (Some r) = Goes (replies.Refused r) world
unless_refused_in world act None = performs_in world act

-- what a step does: a trapped store does nothing any more
unfoldable pub outcome : World → Act → Outcome
outcome world act =
    if world.state.trapped
    then stops StoreTrapped world
    else unless_refused_in world act (refusal_in world act)

-- one step
abbrev pub outcome_of_step : World → Step → Outcome
outcome_of_step world step = outcome world (act_of step)

-- WHICH STEPS TOUCH A HOST END

-- the end on the other side of the end on a side of stream s belongs to a host end
abbrev pub is_host_across : State → ℕ → Side → Bool
is_host_across state s side = is_host (end_of (opposite side) (stream_at state s)).owner

-- a read or write polls the host end on the other side, and a drive round those that it drives
abbrev pub polls_by : State → Touch → Bool
polls_by state (Operates side end address count) = is_host_across state (stream_named (named state end)) side
polls_by state Drives = true
polls_by state touch = false

-- a step that may poll a host end. Running out of memory in it traps the store; in any other step it changes
-- nothing
abbrev pub may_poll : World → Act → Bool
may_poll world act = polls_by world.state (touch_of world.state act)

-- one is touched that is polled or named, or whose other end is dropped
abbrev pub touches_by : State → Touch → Bool
touches_by state (Drops s side) = is_host_across state s side
touches_by state (Hosts n act) = true
touches_by state touch = polls_by state touch

-- a step that touches a host end
abbrev pub touches : World → Act → Bool
touches world act = touches_by world.state (touch_of world.state act)
