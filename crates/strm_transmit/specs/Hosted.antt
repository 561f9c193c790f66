-- How a call of the store with host ends is a step of the machine among them. Ours.
use Rattle.std.specs.Prelude.{◌≡◌, ◌≢◌, ℕ, Bool, true, false, if◌then◌else◌, [], Result, Ok, Err, IfErr, Some, None}
use Rattle.strm_buffers.specs.Tells.{Tells, told_by}
use Rattle.strm_machine.specs.State.{State, producer_at, consumer_at, stream_at, is_host}
use Rattle.strm_machine.specs.Reactions.{reaction}
use Rattle.strm_machine.specs.Sides.{opposite, end_of}
use Rattle.strm_machine.specs.Tests.{named, stream_named}
use Rattle.strm_machine.specs.declared.acts.Act.{Act}
use Rattle.strm_machine.specs.declared.acts.Act.TheVariants.{OnEnd}
use Rattle.strm_machine.specs.declared.acts.EndAct.TheVariants.{Operate}
use Rattle.strm_machine.specs.declared.replies.Reply.{Reply}
use Rattle.strm_machine.specs.declared.replies.Reply.TheVariants as replies
use Rattle.strm_machine.specs.declared.streams.Duty.TheVariants.{Serves}
use Rattle.strm_machine.specs.declared.streams.Owner.TheVariants.{Host}
use Rattle.strm_machine.specs.declared.streams.Side.{Side}
use Rattle.strm_machine.specs.declared.streams.Side.TheVariants.{Writing, Reading}
use Rattle.strm_machine.specs.declared.stops.Stop.TheVariants as stops
use Rattle.strm_host_machine.specs.Outcomes.{Outcome}
use Rattle.strm_host_machine.specs.World.{World, stream_in, with_stream_in}
use Rattle.strm_host_machine.specs.Attaching.{forsaken}
use Rattle.strm_host_machine.specs.Releasing.{KnowsHeld}
use Rattle.strm_host_machine.specs.HostRefusals.{refusal_in}
use Rattle.strm_host_machine.specs.LastRecord.{HaltsByRecord}
use Rattle.strm_host_machine.specs.Steps.{outcome, may_poll, touches}
use Rattle.strm_host_machine.specs.Does.{Logs, world_of, Answered, FitsWriter, FitsReader, Fits, Does}
use Rattle.strm_transmit.specs.Meets.{Meets, as_reply, act_takes_memory}
use Rattle.strm_transmit.specs.OutOfMemory.{RunsOutIn, IfOutOfMemory}
use Rattle.strm_transmit.specs.declared.errors.StoreError.{StoreError}
use Rattle.strm_transmit.specs.declared.errors.StoreError.TheVariants.{Refused, HostFailed, HostBroke, BadItem, StoreTrapped, OutOfMemory}

-- an answer, a refusal among them, or the cause of a stop; none for running out of memory
abbrev pub call_answered : Result Reply StoreError → Answered
call_answered (Ok reply) = Ok reply
call_answered (Err (Refused refusal)) = Ok (replies.Refused refusal)
call_answered (Err (HostFailed end)) = Err (Some (stops.HostFailed end))
call_answered (Err (HostBroke end)) = Err (Some (stops.HostBroke end))
call_answered (Err (BadItem stream)) = Err (Some (stops.BadItem stream))
call_answered (Err StoreTrapped) = Err (Some stops.StoreTrapped)
call_answered (Err OutOfMemory) = Err None

-- if host end n is in use, it is there, with its stream's kind and payload: on the writing side a host
-- writer, on the reading side a host reader
abbrev pub FitsAt : Side → State → Tells → ℕ → Type 0
FitsAt Writing state tells n =
    (s : ℕ) → (producer_at state n).duty ≡ Serves s → FitsWriter (stream_at state s) tells n
FitsAt Reading state tells r =
    (s : ℕ) → (consumer_at state r).duty ≡ Serves s → FitsReader (stream_at state s) tells r

-- whatever host ends fitted a store still fit it
abbrev pub StillFits : State → State → Type 0
StillFits old new = (tells : Tells) → Fits old tells → Fits new tells

-- whatever a store knew of what host writers hold, it knows still
abbrev pub StillKnows : State → State → Type 0
StillKnows old new = (tells : Tells) → KnowsHeld old tells → KnowsHeld new tells

-- the world after stream s lost the end on a side: a host end on the other side goes too
abbrev pub forsaken_in : World → ℕ → Side → World
forsaken_in world s side =
    let stream = stream_in world s in
    if is_host (end_of (opposite side) stream).owner then with_stream_in world s (forsaken side stream) else world

-- a state among no host ends: whether an act touches one is a fact of the state
abbrev pub lone : State → World
lone state = record { state = state; writers = []; readers = [] }

-- an act that may be done: the store isn't trapped, and nothing refuses the act, whatever records are
-- yet to come
pub record MayBeDone (state : State) (tells : Tells) (act : Act) : Type 0 where
  pub untrapped : state.trapped ≡ false
  pub none : (logs : Logs) → refusal_in (world_of state tells logs) act ≡ None

-- store and host ends are as they were
pub record StoreStays (old new : State) (tells told : Tells) : Type 0 where
  pub same : new ≡ old
  pub ends : told ≡ tells

-- what running out of memory leaves where a host end may be polled: a trapped store, and what host ends then tell
pub record TrapsOutOfMemory (act : Act) (old new : State) (tells told : Tells) : Type 0 where
  pub trapped : new.trapped ≡ true
  pub wants : RunsOutIn old tells told act

-- what it leaves: that where a host end may be polled; anywhere else nothing has changed
abbrev pub Wanting : Bool → Act → State → State → Tells → Tells → Type 0
Wanting true act old new tells told = TrapsOutOfMemory act old new tells told
Wanting false act old new tells told = StoreStays old new tells told

-- what an error leaves: a refusal and a store that was trapped change nothing, and a stop traps the
-- store
abbrev pub Leaves : Act → State → State → Tells → Tells → StoreError → Type 0
Leaves act old new tells told (Refused refusal) = StoreStays old new tells told
Leaves act old new tells told StoreTrapped = StoreStays old new tells told
Leaves act old new tells told OutOfMemory = Wanting (may_poll (lone old) act) act old new tells told
Leaves act old new tells told _ = new.trapped ≡ true

-- a host writer has the write end of stream s, and holds items
pub record HasHeld (state : State) (tells : Tells) (s : ℕ) : Type 0 where
  pub writer : ℕ
  pub owner : (stream_at state s).writer.owner ≡ Host writer
  pub some : (told_by tells writer).holds ≢ []

-- a read for which a host writer holds items: they are handed over, and it is not polled
abbrev pub IsHandedOver : State → Tells → Act → Type 0
IsHandedOver state tells (OnEnd Reading end (Operate address count)) = HasHeld state tells (stream_named (named state end))
IsHandedOver state tells act = ⊥

-- out of memory only where a host end may be polled
abbrev pub RunsOutOnlyPolling : {T : Type 0} → State → Act → Result T StoreError → Type 0
RunsOutOnlyPolling state act result = may_poll (lone state) act ≡ false → result ≢ Err OutOfMemory

-- or where the act takes memory
abbrev pub RunsOutOnlyTaking : {T : Type 0} → State → Act → Result T StoreError → Type 0
RunsOutOnlyTaking state act result = act_takes_memory act ≡ false → RunsOutOnlyPolling state act result

-- and never for items that are handed over
abbrev pub RunsOutNoneHeld : {T : Type 0} → State → Tells → Act → Result T StoreError → Type 0
RunsOutNoneHeld state tells act result = IsHandedOver state tells act → result ≢ Err OutOfMemory

-- an error that a host end failed, or broke the rules of its kind: the end says so by its last record, which it
-- made in the call
abbrev pub ErrsByRecord : Tells → Tells → StoreError → Type 0
ErrsByRecord tells told (HostFailed end) = HaltsByRecord tells told (stops.HostFailed end)
ErrsByRecord tells told (HostBroke end) = HaltsByRecord tells told (stops.HostBroke end)
ErrsByRecord tells told _ = Unit {0}

-- an error of a call that polled a host end
abbrev pub IsStop : StoreError → Type 0
IsStop (Refused refusal) = ⊥
IsStop StoreTrapped = ⊥
IsStop _ = Unit {0}

-- a part of a step among host ends, and its answer: the machine does the same, and the store needs these host ends
-- still; an error is a stop, and traps the store; for running out of memory host ends tell what `RunsOut` says
pub record IsPartAs {T : Type 0} (reply : T → Reply) (old new : State) (tells told : Tells) (result : Result T StoreError) (part : World → Outcome) (RunsOut : (World → Outcome) → State → Tells → Tells → Type 0) : Type 0 where
  pub does : Does old new tells told (call_answered (as_reply reply result)) part
  pub fits : Fits new told
  pub stop : IfErr result IsStop
  pub trapped : IfErr result (λ _. new.trapped ≡ true)
  pub out_of_memory : IfErr result (λ error. IfOutOfMemory error (RunsOut part old tells told))

-- one that answers nothing
abbrev pub IsPart : State → State → Tells → Tells → Result (Unit {0}) StoreError → (World → Outcome) → ((World → Outcome) → State → Tells → Tells → Type 0) → Type 0
IsPart old new tells told result part RunsOut = IsPartAs (λ _. replies.Done) old new tells told result part RunsOut

-- a call of an act that touches no host end: the answer and the state are the machine's without them
pub record MeetsAlone (old new : State) (tells told : Tells) (result : Result Reply StoreError) (act : Act) : Type 0 where
  pub meets : Meets old new result (reaction old act)
  pub ends : told ≡ tells

-- a call is a step of the machine among host ends, which stay those that the store needs. A host end that
-- failed, or broke its rules, says so by its last record. Out of memory only where the step may be done, so
-- never in place of a refusal
pub record MeetsHosted (old new : State) (tells told : Tells) (result : Result Reply StoreError) (act : Act) : Type 0 where
  pub does : Does old new tells told (call_answered result) (λ world. outcome world act)
  pub fits : Fits new told
  pub alone : touches (lone old) act ≡ false → MeetsAlone old new tells told result act
  pub err : IfErr result (Leaves act old new tells told)
  pub by_record : IfErr result (ErrsByRecord tells told)
  pub out_of_memory : result ≡ Err OutOfMemory → MayBeDone old tells act
