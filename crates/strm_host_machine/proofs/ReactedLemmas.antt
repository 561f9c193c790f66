-- A step that touches no host end is the machine's without them.
use Rattle.std.proofs.Common.{◌≡◌, ℕ, Bool, true, false, cond, List, Option, Some, None, Ok, Err, refl, sym, ap, subst, ◌∙◌}
use Rattle.strm_codes.specs.declared.refusals.Refusal.{Refusal}
use Rattle.strm_buffers.specs.Tells.{Tells}
use Rattle.strm_machine.specs.State.{State, is_host}
use Rattle.strm_machine.specs.Sides.{opposite, end_of}
use Rattle.strm_machine.specs.Refusals.{refusal}
use Rattle.strm_machine.specs.Reactions.{reaction}
use Rattle.strm_machine.specs.declared.acts.Act.{Act}
use Rattle.strm_machine.specs.declared.acts.Act.TheVariants.{OnEnd, OnHost}
use Rattle.strm_machine.specs.declared.acts.EndAct.TheVariants.{Operate}
use Rattle.strm_machine.specs.declared.acts.NamedEnd.{NamedEnd}
use Rattle.strm_machine.specs.declared.streams.Side.{Side}
use Rattle.strm_machine.specs.declared.streams.Side.TheVariants.{Writing, Reading}
use Rattle.strm_machine.specs.declared.streams.Owner.{Owner}
use Rattle.strm_machine.specs.declared.streams.Owner.TheVariants.{Host}
use Rattle.strm_machine.specs.declared.stops.Stop.TheVariants.{BadItem, StoreTrapped}
use Rattle.strm_machine.specs.declared.replies.Reply.{Reply}
use Rattle.strm_machine.specs.declared.replies.Reply.TheVariants as replies
use Rattle.strm_machine.proofs.ReactionLemmas.{reaction-trapped, reaction-refused}
use Rattle.strm_host_machine.specs.Ends.{Writer, Reader}
use Rattle.strm_host_machine.specs.World.{World, stream_in}
use Rattle.strm_host_machine.specs.Outcomes.{stops, of_reply, reacted}
use Rattle.strm_host_machine.specs.HostRefusals.{refusal_in}
use Rattle.strm_host_machine.specs.Steps.{reacts, operates_by, drops_in, touches_by, touches, performs_by, performs_in, unless_refused_in, outcome}
use Rattle.strm_host_machine.specs.Attaching.{forsakes}
use Rattle.strm_host_machine.specs.Does.{Logs, writers_from, readers_from, world_of, Answered, Gives, Caused, Does}
use Rattle.strm_host_machine.proofs.TouchLemmas.{refusal-none, touch-by}
use Rattle.strm_host_machine.proofs.DoesLemmas.{Does-untold}

-- STEPS THAT TOUCH NO HOST END

operates-reacted : (world : World) (side : Side) (end : NamedEnd) (address count : ℕ) (owner : Owner) → is_host owner ≡ false
    → operates_by world side end address count owner ≡ reacts world (OnEnd side end (Operate address count))
operates-reacted world Reading end address count (Host n) e = cc
operates-reacted world Writing end address count (Host r) e = cc
operates-reacted world side end address count _ e = refl

drops-reacted : (world : World) (s : ℕ) (side : Side) (act : Act) → is_host (end_of (opposite side) (stream_in world s)).owner ≡ false
    → drops_in world s side act ≡ reacts world act
drops-reacted world s side act e = ap (λ b. cond b (forsakes (reacts world act) s side) (reacts world act)) e

performs-reacted : (world : World) (act : Act) → touches world act ≡ false → performs_in world act ≡ reacts world act
unfolding performs_in
performs-reacted world =
    touch-by (λ act touch. touches_by world.state touch ≡ false → performs_by world act touch ≡ reacts world act) world.state
    (record {
      operated = λ side end address count. operates-reacted world side end address count _;
      dropped = λ act s side d. drops-reacted world s side act;
      hosted = λ n act e. cc;
      driven = λ e. cc;
      alone = λ act n e. refl;
    })

-- what is done to no host end is refused as the machine without them refuses it
pub refusal-reacted : (world : World) (act : Act) → touches world act ≡ false → refusal_in world act ≡ refusal world.state act
refusal-reacted world (OnHost n act) e = cc
refusal-reacted world act e = refusal-none world act refl

unless-reacted : (world : World) (act : Act) (o : Option Refusal) → touches world act ≡ false → world.state.trapped ≡ false → refusal world.state act ≡ o
    → unless_refused_in world act o ≡ reacts world act
unless-reacted world act (Some r) e t f = sym (ap (reacted world) (reaction-refused world.state act r t f))
unless-reacted world act None e t f = performs-reacted world act e

outcome-by : (world : World) (act : Act) (b : Bool) → touches world act ≡ false → world.state.trapped ≡ b
    → cond b (stops StoreTrapped world) (unless_refused_in world act (refusal_in world act)) ≡ reacts world act
outcome-by world act true e t = sym (ap (reacted world) (reaction-trapped world.state act t))
outcome-by world act false e t =
    ap (unless_refused_in world act) (refusal-reacted world act e) ∙ unless-reacted world act (refusal world.state act) e t refl

-- a step that touches no host end is the machine's without them
pub outcome-reacted : (world : World) (act : Act) → touches world act ≡ false → outcome world act ≡ reacts world act
unfolding outcome
outcome-reacted world act e = outcome-by world act world.state.trapped e refl

-- A STORE'S STATE AMONG ITS HOST ENDS

-- where what is kept of host writers stays, what the host ends are to the machine stays
pub world_of-state : (old new : State) (tells : Tells) (logs : Logs) → new.producers ≡ old.producers
    → record (world_of old tells logs) { state = new } ≡ world_of new tells logs
world_of-state old new tells logs e =
    ap (λ ps. record { state = new; writers = writers_from ps tells.writers logs.writers; readers = readers_from tells.readers logs.readers }) (sym e)

-- whether a step touches a host end is a fact of the state
pub touches-state : (world : World) (writers : List Writer) (readers : List Reader) (act : Act)
    → touches (record world { writers = writers; readers = readers }) act ≡ touches world act
touches-state world writers readers act = refl

-- the answer that a reply of the machine without host ends is
abbrev pub answer_of : Reply → Answered
answer_of (replies.BadItem stream) = Err (Some (BadItem stream))
answer_of replies.StoreTrapped = Err (Some StoreTrapped)
answer_of reply = Ok reply

gives-reply : (reply : Reply) (after : World) → Gives (answer_of reply) after (of_reply reply after)
gives-reply (replies.BadItem stream) after = refl
gives-reply replies.StoreTrapped after = refl
gives-reply _ after = refl

uncaused : (reply : Reply) (tells : Tells) → Caused (answer_of reply) tells tells
uncaused (replies.BadItem stream) tells = tt
uncaused replies.StoreTrapped tells = tt
uncaused _ tells = tt

module _ (old : State) (act : Act) (tells : Tells) (writers : List Writer) (readers : List Reader)
    (alone : touches (record { state = old; writers = writers; readers = readers }) act ≡ false) (kept : (reaction old act).state.producers ≡ old.producers) where
  outcome-lifted : (logs : Logs) → outcome (world_of old tells logs) act ≡ of_reply (reaction old act).reply (world_of (reaction old act).state tells logs)
  outcome-lifted logs =
      outcome-reacted (world_of old tells logs) act (touches-state (record { state = old; writers = writers; readers = readers }) (world_of old tells logs).writers (world_of old tells logs).readers act ∙ alone)
      ∙ ap (of_reply (reaction old act).reply) (world_of-state old (reaction old act).state tells logs kept)

  -- a call that did what the machine does without host ends did what it does with them
  pub lifted : Does old (reaction old act).state tells tells (answer_of (reaction old act).reply) (λ w. outcome w act)
  lifted =
      Does-untold old (reaction old act).state tells (answer_of (reaction old act).reply) (λ w. outcome w act)
      (λ logs. subst (Gives (answer_of (reaction old act).reply) (world_of (reaction old act).state tells logs)) (sym (outcome-lifted logs)) (gives-reply (reaction old act).reply (world_of (reaction old act).state tells logs)))
      (uncaused (reaction old act).reply tells)
