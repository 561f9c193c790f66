-- The walk of every call with host ends: one that is not admitted, one that is, and one that touches no
-- host end and so does what the machine does without them.
use Rattle.std.proofs.Common.{◌≡◌, Bool, true, false, cond, [], Option, Some, None, Result, Ok, Err, refl, sym, ap, subst, ◌∙◌}
use Rattle.std.specs.Prelude.{IfOk, IfErr, IsTrue}
use Rattle.std.proofs.lemmas.Bool.{true≢false}
use Rattle.strm_codes.specs.declared.refusals.Refusal.{Refusal}
use Rattle.strm_buffers.specs.Tells.{Tells}
use Rattle.strm_machine.specs.State.{State}
use Rattle.strm_machine.specs.Plays.{is_settled}
use Rattle.strm_machine.specs.Soundness.{IsSound}
use Rattle.strm_machine.specs.Refusals.{refusal}
use Rattle.strm_machine.specs.Reactions.{Reaction, goes, reaction}
use Rattle.strm_machine.specs.declared.acts.Act.{Act}
use Rattle.strm_machine.specs.declared.replies.Reply.{Reply}
use Rattle.strm_machine.specs.declared.replies.Reply.TheVariants as replies
use Rattle.strm_machine.specs.declared.stops.Stop.TheVariants as stops
use Rattle.strm_machine.proofs.ReactionLemmas.{reaction-trapped, reaction-refused}
use Rattle.strm_host_machine.specs.World.{World}
use Rattle.strm_host_machine.specs.Outcomes.{Outcome, Goes, stops as stops_in}
use Rattle.strm_host_machine.specs.HostRefusals.{refusal_in}
use Rattle.strm_host_machine.specs.Steps.{Touch, Drops, Hosts, touch_of, performs_in, unless_refused_in, outcome, polls_by, may_poll, touches_by, touches}
use Rattle.strm_host_machine.specs.Does.{Logs, world_of, Answered, Fits, Does}
use Rattle.strm_host_machine.proofs.DoesLemmas.{Does-untold, Does-as}
use Rattle.strm_host_machine.proofs.OutcomeLemmas.{outcome-trapped, outcome-performs}
use Rattle.strm_host_machine.proofs.ReactedLemmas.{refusal-reacted, touches-state, answer_of, lifted}
use Rattle.strm_transmit.specs.Meets.{is_done, Meets, admitted, or_found}
use Rattle.strm_transmit.specs.Hosted.{call_answered, lone, MayBeDone, StoreStays, Leaves, ErrsByRecord, MeetsHosted}
use Rattle.strm_transmit.specs.declared.errors.StoreError.{StoreError}
use Rattle.strm_transmit.specs.declared.errors.StoreError.TheVariants.{Refused, HostFailed, HostBroke, BadItem, StoreTrapped, OutOfMemory}
use Rattle.strm_transmit.proofs.StepLemmas.{not_admitted}
use Rattle.strm_transmit.proofs.FitsLemmas.{AreMade, KeepsTypes, Fits-kept, same_streams, reaction-types}

-- ## What a call left

-- a call, where state and host ends after it are these
pub Does-after : {old after new : State} {tells left told : Tells} {result : Answered} {machine : World → Outcome} → new ≡ after → told ≡ left → Does old after tells left result machine → Does old new tells told result machine
Does-after {old = old} {after = after} {tells = tells} {told = told} {result = result} {machine = machine} e f d =
    subst (λ (x : State). Does old x tells told result machine) (sym e)
    (subst (λ (x : Tells). Does old after tells x result machine) (sym f) d)

pub Fits-after : (after new : State) (left told : Tells) → new ≡ after → told ≡ left → Fits after left → Fits new told
Fits-after after new left told e f fits = subst (λ (x : State). Fits x told) (sym e) (subst (Fits after) (sym f) fits)

-- store and host ends as they were
pub all_stays : (state : State) (tells : Tells) → StoreStays state state tells tells
all_stays state tells = record { same = refl; ends = refl }

-- ## A call that is not admitted

-- what the machine refuses of an act on a store's state, whatever records are yet to come
abbrev pub RefusedBy : State → Tells → Act → Option Refusal → Type 0
RefusedBy state tells act o = (logs : Logs) → refusal_in (world_of state tells logs) act ≡ o

outcome-refused : (world : World) (act : Act) (r : Refusal) → world.state.trapped ≡ false → refusal_in world act ≡ Some r → outcome world act ≡ Goes (replies.Refused r) world
unfolding outcome
outcome-refused world act r t e =
    ap (λ b. cond b (stops_in stops.StoreTrapped world) (unless_refused_in world act (refusal_in world act))) t
    ∙ ap (unless_refused_in world act) e

module _ (state : State) (tells : Tells) (act : Act) where
  -- a call that answers this error changed nothing
  abbrev Unchanged : StoreError → Type 0
  Unchanged error = MeetsHosted state state tells tells (Err error) act

  -- where its act touches no host end, it is the machine's without them
  abbrev IsAlone : StoreError → Type 0
  IsAlone error = touches (lone state) act ≡ false → Meets state state (Err error) (reaction state act)

  -- where it runs out of memory, its act may be done
  abbrev IsCaused : StoreError → Type 0
  IsCaused error = ◌≡◌ {A = Result Reply StoreError} (Err error) (Err OutOfMemory) → MayBeDone state tells act

  pub unchanged : (error : StoreError) → Leaves act state state tells tells error → Does state state tells tells (call_answered (Err error)) (λ w. outcome w act) → Fits state tells → IsCaused error → ErrsByRecord tells tells error → IsAlone error → Unchanged error
  unchanged error leaves does fits caused by_record alone = record {
    does = does;
    fits = fits;
    alone = λ u. record { meets = alone u; ends = refl };
    err = leaves;
    by_record = by_record;
    out_of_memory = caused;
  }

  -- why an act was not admitted, as what the machine does
  pub hosted_not_admitted : {V : Type 0} (o : Option Refusal) (wanted : V) (found : Result V Refusal) (error : StoreError) → RefusedBy state tells act o → found ≡ or_found o wanted → Err error ≡ admitted state found → Fits state tells → IsAlone error → Unchanged error
  hosted_not_admitted o wanted found error r e a fits =
      not_admitted state o wanted found (λ x. IsAlone x → Unchanged x) error e a
      (λ t. unchanged StoreTrapped (all_stays state tells)
      (Does-untold state state tells (Err (Some stops.StoreTrapped)) (λ w. outcome w act) (λ logs. outcome-trapped (world_of state tells logs) act t) tt) fits (λ w. cc) tt)
      (λ q t f. unchanged (Refused q) (all_stays state tells)
      (Does-untold state state tells (Ok (replies.Refused q)) (λ w. outcome w act) (λ logs. outcome-refused (world_of state tells logs) act q t (r logs ∙ f)) tt) fits (λ w. cc) tt)

-- ## A call that is

-- what the machine performs of it, on a store's state
abbrev pub PerformsAs : State → Tells → Act → (World → Outcome) → Type 0
PerformsAs state tells act machine =
    (logs : Logs) → performs_in (world_of state tells logs) act ≡ machine (world_of state tells logs)

-- it is what the machine does
pub does_admitted : (old new : State) (tells told : Tells) (act : Act) (answer : Answered) (machine : World → Outcome) → MayBeDone old tells act → PerformsAs old tells act machine → Does old new tells told answer machine → Does old new tells told answer (λ w. outcome w act)
does_admitted old new tells told act answer machine may performs =
    Does-as old new tells told answer machine (λ w. outcome w act)
    (λ logs. outcome-performs (world_of old tells logs) act may.untrapped (may.none logs) ∙ performs logs)

-- ## A call that touches no host end

-- a step that is done wasn't refused
module _ (state : State) (tells : Tells) (act : Act) (alone : touches (lone state) act ≡ false) where
  -- the refusal of the machine without host ends is that of the machine with them
  unrefused : refusal state act ≡ None → RefusedBy state tells act None
  unrefused e logs =
      refusal-reacted (world_of state tells logs) act (touches-state (lone state) (world_of state tells logs).writers (world_of state tells logs).readers act ∙ alone) ∙ e

  done_unless : (o : Option Refusal) → state.trapped ≡ false → refusal state act ≡ o → is_done (reaction state act).reply ≡ true → MayBeDone state tells act
  done_unless None t e d = record { untrapped = t; none = unrefused e }
  done_unless (Some r) t e d = absurd (true≢false (sym d ∙ ap (λ (x : Reaction). is_done x.reply) (reaction-refused state act r t e)))

  done_by : (b : Bool) → state.trapped ≡ b → is_done (reaction state act).reply ≡ true → MayBeDone state tells act
  done_by true t d = absurd (true≢false (sym d ∙ ap (λ (x : Reaction). is_done x.reply) (reaction-trapped state act t)))
  done_by false t d = done_unless (refusal state act) t refl d

  done_may : is_done (reaction state act).reply ≡ true → MayBeDone state tells act
  done_may d = done_by state.trapped refl d

-- an answer is settled, if there is one
abbrev pub Settles : Result Reply StoreError → Type 0
Settles result = IfOk result (λ reply. IsTrue (is_settled reply))

answer_settled : (reply : Reply) → IsTrue (is_settled reply) → answer_of reply ≡ Ok reply
answer_settled (replies.BadItem stream) s = cc s
answer_settled replies.StoreTrapped s = cc s
answer_settled _ s = refl

pub meets-types : (old new : State) (result : Result Reply StoreError) (r : Reaction) → Meets old new result r → KeepsTypes old r.state → KeepsTypes old new
meets-types old new (Ok reply) r m k = subst (λ (x : Reaction). KeepsTypes old x.state) m k
meets-types old new (Err (Refused q)) r m k = subst (λ (x : Reaction). KeepsTypes old x.state) m.0 k
meets-types old new (Err (HostFailed end)) r m k = absurd m
meets-types old new (Err (HostBroke end)) r m k = absurd m
meets-types old new (Err (BadItem stream)) r m k = subst (λ (x : Reaction). KeepsTypes old x.state) m.0 k
meets-types old new (Err StoreTrapped) r m k = subst (λ (x : Reaction). KeepsTypes old x.state) m.0 k
meets-types old new (Err OutOfMemory) r m k = same_streams old new (ap (λ (s : State). s.producers) m.1) (ap (λ (s : State). s.consumers) m.1) (ap (λ (s : State). s.streams) m.1)

-- an act that touches no host end polls none
unpolled_by : (state : State) (touch : Touch) → touches_by state touch ≡ false → polls_by state touch ≡ false
unpolled_by state (Drops s side) u = refl
unpolled_by state (Hosts n act) u = refl
unpolled_by state _ u = u

pub unpolled : (world : World) (act : Act) → touches world act ≡ false → may_poll world act ≡ false
unpolled world act u = unpolled_by world.state (touch_of world.state act) u

module _ (old new : State) (tells : Tells) (act : Act) where
  meets-does : (result : Result Reply StoreError) → touches (lone old) act ≡ false → (reaction old act).state.producers ≡ old.producers → Settles result → Meets old new result (reaction old act) → Does old new tells tells (call_answered result) (λ w. outcome w act)
  meets-does result u p s m = by_result result s m
    where
      -- what the machine does without them
      by_reaction : (r : Reaction) → reaction old act ≡ r → Does old r.state tells tells (answer_of r.reply) (λ w. outcome w act)
      by_reaction r e = subst (λ (x : Reaction). Does old x.state tells tells (answer_of x.reply) (λ w. outcome w act)) e (lifted old act tells [] [] u p)

      by_result : (x : Result Reply StoreError) → Settles x → Meets old new x (reaction old act) → Does old new tells tells (call_answered x) (λ w. outcome w act)
      by_result (Ok reply) k n = subst (λ a. Does old new tells tells a (λ w. outcome w act)) (answer_settled reply k) (by_reaction (goes reply new) n)
      by_result (Err (Refused q)) k n = by_reaction (goes (replies.Refused q) new) n.0
      by_result (Err (HostFailed end)) k n = absurd n
      by_result (Err (HostBroke end)) k n = absurd n
      by_result (Err (BadItem stream)) k n = by_reaction (goes (replies.BadItem stream) new) n.0
      by_result (Err StoreTrapped) k n = by_reaction (goes replies.StoreTrapped new) n.0
      by_result (Err OutOfMemory) k n = Does-untold old new tells (Err None) (λ w. outcome w act) (λ logs. tt) tt

  meets-leaves : (result : Result Reply StoreError) → touches (lone old) act ≡ false → Meets old new result (reaction old act) → IfErr result (Leaves act old new tells tells)
  meets-leaves (Ok reply) u m = tt
  meets-leaves (Err (Refused q)) u m = record { same = m.1; ends = refl }
  meets-leaves (Err (HostFailed end)) u m = absurd m
  meets-leaves (Err (HostBroke end)) u m = absurd m
  meets-leaves (Err (BadItem stream)) u m = m.1
  meets-leaves (Err StoreTrapped) u m = record { same = m.1; ends = refl }
  meets-leaves (Err OutOfMemory) u m = rw (unpolled (lone old) act u) (record { same = m.1; ends = refl })

  meets-record : (result : Result Reply StoreError) → Meets old new result (reaction old act) → IfErr result (ErrsByRecord tells tells)
  meets-record (Ok reply) m = tt
  meets-record (Err (Refused q)) m = tt
  meets-record (Err (HostFailed end)) m = absurd m
  meets-record (Err (HostBroke end)) m = absurd m
  meets-record (Err (BadItem stream)) m = tt
  meets-record (Err StoreTrapped) m = tt
  meets-record (Err OutOfMemory) m = tt

  meets-out_of_memory : (result : Result Reply StoreError) → touches (lone old) act ≡ false → Meets old new result (reaction old act) → result ≡ Err OutOfMemory → MayBeDone old tells act
  meets-out_of_memory result u m w =
      done_may old tells act u (subst (λ (x : Result Reply StoreError). Meets old new x (reaction old act)) w m).0

  pub hosted_alone : (result : Result Reply StoreError) → IsSound old → AreMade old → touches (lone old) act ≡ false → Settles result → Meets old new result (reaction old act) → Fits old tells → MeetsHosted old new tells tells result act
  hosted_alone result h made u s m fits =
      let types = reaction-types old act h in
      record {
        does = meets-does result u types.producers s m;
        fits = Fits-kept old new tells made (meets-types old new result (reaction old act) m types) fits;
        alone = λ _. record { meets = m; ends = refl };
        err = meets-leaves result u m;
        by_record = meets-record result m;
        out_of_memory = meets-out_of_memory result u m;
      }
