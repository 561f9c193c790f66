-- What a part of a run does to the state: the few ways, and what is known of each.
use Rattle.std.proofs.Common.{◌≡◌, ◌≢◌, ℕ, ◌<◌, Bool, true, false, [], ◌∷◌, ◌++◌, length, set, Some, None, ap, ◌∙◌, ◌⊎◌, inl, inr}
use Rattle.std.proofs.lemmas.List.{set-set}
use Rattle.strm_machine.specs.State.{State, host_limit, no_producer, no_consumer, idle_end, producer_at, kept_at, consumer_at, stream_at, is_loose, is_gone}
use Rattle.strm_machine.specs.Sides.{opposite, end_of, with_operation}
use Rattle.strm_machine.specs.Meetings.{begun}
use Rattle.strm_machine.specs.Moments.{code_told}
use Rattle.strm_host_laws.specs.HostLaws.{is_made_by, is_piped_in}
use Rattle.strm_machine.specs.Endings.{report_on, dropped}
use Rattle.strm_machine.specs.Tests.{named, stream_named, items_asked}
use Rattle.strm_machine.specs.Refusals.{refusal}
use Rattle.strm_machine.specs.Reactions.{with_stream_at, told, reaction}
use Rattle.strm_machine.specs.declared.acts.Act.{Act}
use Rattle.strm_machine.specs.declared.acts.Act.TheVariants.{OnEnd, OnHost}
use Rattle.strm_machine.specs.declared.acts.EndAct.TheVariants.{Operate}
use Rattle.strm_machine.specs.declared.acts.HostAct.TheVariants.{New, Pipe}
use Rattle.strm_machine.specs.declared.acts.NamedEnd.{NamedEnd}
use Rattle.strm_machine.specs.declared.streams.Duty.TheVariants.{Serves}
use Rattle.strm_machine.specs.declared.streams.Owner.TheVariants.{Loose, Host, Gone}
use Rattle.strm_machine.specs.declared.streams.Operation.{Operation}
use Rattle.strm_machine.specs.declared.streams.Side.{Side}
use Rattle.strm_machine.specs.declared.streams.Side.TheVariants.{Writing, Reading}
use Rattle.strm_machine.specs.declared.streams.Stream.{Stream}
use Rattle.strm_machine.specs.declared.replies.Reply.{Reply}
use Rattle.strm_machine.specs.declared.replies.Reply.TheVariants as replies
use Rattle.strm_host_machine.specs.World.{World}
use Rattle.strm_host_machine.specs.Outcomes.{Outcome, Goes, Stops, Stuck}
use Rattle.strm_host_machine.specs.Settling.{with_some_received}
use Rattle.strm_host_machine.specs.Attaching.{piped, without_ends, forsaken}
use Rattle.strm_host_machine.specs.HostRefusals.{is_used}
use Rattle.strm_host_machine.proofs.SettleLemmas.{code_told as code_answered}
use Rattle.strm_host_laws.specs.HostMoments.{Part, Acts, Turns}
use Rattle.strm_host_laws.proofs.HostTurns.{SameDuties, since_of, both_ended, Turned, Going, with_ended, with_done}

-- ## All ways

-- a read or write opens on stream s
abbrev pub opened_by : Side → State → ℕ → Operation → State
opened_by side state s operation = with_stream_at state s (with_operation side (stream_at state s) operation)

-- stream s is driven: the host end on the other side has a turn for the open read or write on a side
pub record Driven (side : Side) (old new : State) (s : ℕ) : Type 0 where
  pub host : ℕ
  pub operation : Operation
  pub owner : (end_of (opposite side) (stream_at old s)).owner ≡ Host host
  pub waits : (end_of side (stream_at old s)).operation ≡ Some operation
  pub open_ : operation.is_open ≡ true
  pub turned : Turned side old new s host operation

-- a read or write of the end that is named opens, the host end on the other side has its turn, and the end
-- is told its report, if there is one
pub record Calls (side : Side) (old : State) (end : NamedEnd) (address count : ℕ) (reply : Reply) (new : State) : Type 0 where
  pub host : ℕ
  pub mid : State
  pub unrefused : refusal old (OnEnd side end (Operate address count)) ≡ None
  pub owner : (end_of (opposite side) (stream_at old (stream_named (named old end)))).owner ≡ Host host
  pub turned : Turned side (opened_by side old (stream_named (named old end)) (begun end.guest address (items_asked end.ty count))) mid (stream_named (named old end)) host (begun end.guest address (items_asked end.ty count))
  pub reply_is : reply ≡ replies.Code (code_answered (report_on side (stream_at mid (stream_named (named old end)))))
  pub is : new ≡ told mid (stream_named (named old end)) side

-- host writer n has a stream more, whose read end is loose
pub record Hosts (old : State) (n : ℕ) (reply : Reply) (new : State) : Type 0 where
  pub stream : Stream
  pub known : n < host_limit
  pub unused : is_used (producer_at old n).duty ≡ false
  pub writer : stream.writer ≡ idle_end (Host n)
  pub reader : stream.reader ≡ idle_end Loose
  pub none : stream.received ≡ 0
  pub reply_is : reply ≡ replies.Number (length old.streams)
  -- it holds items, or none
  pub holding : Bool
  pub is : new ≡ record old { streams = old.streams ++ stream ∷ []; producers = set old.producers n (record no_producer { duty = Serves (length old.streams); holding = holding }) }

-- host reader r has the read end of stream s
abbrev pub piped_in : State → ℕ → ℕ → State
piped_in state s r =
    with_stream_at (record state { consumers = set state.consumers r (record no_consumer { duty = Serves s }) }) s (piped (stream_at state s) r)

-- what becomes of a pipe at once: it stays; or both its ends are gone, since the write end was, or since its
-- host writer has no more to come
pub data Piped (old : State) (s r : ℕ) (new : State) : Type 0 where
  ByStaying : new ≡ piped_in old s r → Piped old s r new
  ByGone : (stream_at old s).writer.owner ≡ Gone → new ≡ with_done Reading (piped_in old s r) s r (without_ends (piped (stream_at old s) r)) → Piped old s r new
  ByDry : (n : ℕ) → (stream_at old s).writer.owner ≡ Host n → new ≡ with_stream_at (with_ended Writing (with_ended Reading (piped_in old s r) r) n) s (without_ends (piped (stream_at old s) r)) → Piped old s r new

-- its stream is another then
pub piped_streams : (old new : State) (s r : ℕ) → Piped old s r new → (new.streams ≡ set old.streams s (piped (stream_at old s) r)) ⊎ (new.streams ≡ set old.streams s (without_ends (piped (stream_at old s) r)))
piped_streams old new s r (ByStaying e) = inl (ap (λ (x : State). x.streams) e)
piped_streams old new s r (ByGone g e) =
    inr (ap (λ (x : State). x.streams) e ∙ set-set old.streams s (piped (stream_at old s) r) (without_ends (piped (stream_at old s) r)))
piped_streams old new s r (ByDry n g e) =
    inr (ap (λ (x : State). x.streams) e ∙ set-set old.streams s (piped (stream_at old s) r) (without_ends (piped (stream_at old s) r)))

-- no memory changes
pub piped_guests : (old new : State) (s r : ℕ) → Piped old s r new → new.guests ≡ old.guests
piped_guests old new s r (ByStaying e) = ap (λ (x : State). x.guests) e
piped_guests old new s r (ByGone g e) = ap (λ (x : State). x.guests) e
piped_guests old new s r (ByDry n g e) = ap (λ (x : State). x.guests) e

-- a loose read end goes to host reader r
pub record Pipes (old : State) (s r : ℕ) (reply : Reply) (new : State) : Type 0 where
  pub known : r < host_limit
  pub unused : is_used (consumer_at old r).duty ≡ false
  pub loose : is_loose (stream_at old s).reader.owner ≡ true
  pub made : s < length old.streams
  pub reply_is : reply ≡ replies.Done
  pub ends : Piped old s r new

-- both host ends of stream s have ended, and what was kept of the writer is given up
abbrev pub both_over : State → (s n r : ℕ) → State
both_over state s n r = record (with_stream_at (both_ended state n r) s (without_ends (stream_at state s))) { kept = set state.kept n [] }

-- the round of stream s, a pipe: so many items more were received, duties stay, and then both ends may go
pub record Passes (old new : State) (s : ℕ) : Type 0 where
  pub writer : ℕ
  pub reader : ℕ
  pub wrote : (stream_at old s).writer.owner ≡ Host writer
  pub read : (stream_at old s).reader.owner ≡ Host reader
  pub count : ℕ
  pub mid : State
  pub mid_is : mid ≡ record old { streams = set old.streams s (with_some_received (stream_at old s) count); producers = mid.producers; kept = mid.kept; consumers = mid.consumers }
  pub duties : SameDuties old mid
  pub as_many : length mid.kept ≡ length old.kept
  pub others : (k : ℕ) → k ≢ writer → kept_at mid k ≡ kept_at old k
  pub since : (k : ℕ) → k ≢ reader → since_of mid k ≡ since_of old k
  pub ends : (new ≡ mid) ⊎ (new ≡ both_over mid s writer reader)

-- after the end on a side of stream s was dropped, the other one is gone, and host end n has ended
abbrev pub forsaken_by : Side → State → ℕ → ℕ → State
forsaken_by side state s n = with_done (opposite side) state s n (forsaken side (stream_at state s))

-- a part that names no end of a stream: it is done to a host end, or is the turn of a stream
abbrev pub is_idle : Part → Bool
is_idle (Acts (OnHost n act)) = true
is_idle (Turns s) = true
is_idle _ = false

-- a part that changes nothing, tells nothing, makes no stream, and gives no host reader one
pub record Rests (part : Part) (reply : Reply) : Type 0 where
  pub idle : is_idle part ≡ true
  pub untold : code_told reply ≡ None
  pub unmade : (s : ℕ) → is_made_by s part reply ≡ false
  pub unpiped : (s : ℕ) → is_piped_in s part reply ≡ false

-- an end is dropped, or closed, and the host end on the other side goes with it
pub record Forsakes (old : State) (act : Act) (reply : Reply) (new : State) : Type 0 where
  pub stream : ℕ
  pub side : Side
  pub host : ℕ
  pub gone : is_gone (end_of side (stream_at (reaction old act).state stream)).owner ≡ true
  pub owner : (end_of (opposite side) (stream_at (reaction old act).state stream)).owner ≡ Host host
  pub dropped_is : stream_at (reaction old act).state stream ≡ dropped side (stream_at old stream)
  pub others : (k : ℕ) → k ≢ stream → stream_at (reaction old act).state k ≡ stream_at old k
  pub done : (reaction old act).reply ≡ replies.Done
  pub drops : is_idle (Acts act) ≡ false
  pub reply_is : reply ≡ (reaction old act).reply
  pub is : new ≡ forsaken_by side (reaction old act).state stream host

pub data Effect (old : State) (part : Part) (reply : Reply) (new : State) : Type 0 where
  ByReaction : (act : Act) → part ≡ Acts act → is_idle part ≡ false → reply ≡ (reaction old act).reply → new ≡ (reaction old act).state → Effect old part reply new
  ByRest : Rests part reply → new ≡ old → Effect old part reply new
  ByHosting : (n : ℕ) → part ≡ Acts (OnHost n New) → Hosts old n reply new → Effect old part reply new
  ByPiping : (s r : ℕ) → part ≡ Acts (OnHost r (Pipe s)) → Pipes old s r reply new → Effect old part reply new
  ByDriving : (side : Side) (s : ℕ) → part ≡ Turns s → reply ≡ replies.Done → Driven side old new s → Effect old part reply new
  ByPassing : (s : ℕ) → part ≡ Turns s → reply ≡ replies.Done → Passes old new s → Effect old part reply new
  ByCalling : (side : Side) (end : NamedEnd) (address count : ℕ) → part ≡ Acts (OnEnd side end (Operate address count)) → Calls side old end address count reply new → Effect old part reply new
  ByForsaking : (act : Act) → part ≡ Acts act → Forsakes old act reply new → Effect old part reply new

-- what a part does in this world
abbrev pub EffectIn : World → Part → Reply → World → Type 0
EffectIn w part reply v = Effect w.state part reply v.state

pub Going_maps : (P Q : Reply → World → Type 0) (o : Outcome) → ((reply : Reply) (v : World) → P reply v → Q reply v) → Going P o → Going Q o
Going_maps P Q (Goes reply v) f h = f reply v h
Going_maps P Q (Stops stop writers readers) f h = tt
Going_maps P Q Stuck f h = tt
