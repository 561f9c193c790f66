-- What comes of a step, by what is known of the state and of the act.
use Rattle.std.proofs.Common.{◌≡◌, ℕ, true, false, cond, None, refl, ap, ◌∙◌}
use Rattle.strm_machine.specs.Refusals.{refusal}
use Rattle.strm_machine.specs.declared.acts.Act.{Act}
use Rattle.strm_machine.specs.declared.acts.Act.TheVariants.{OnEnd, OnLoose, Drive}
use Rattle.strm_machine.specs.declared.acts.EndAct.{EndAct}
use Rattle.strm_machine.specs.declared.acts.LooseAct.{LooseAct}
use Rattle.strm_machine.specs.declared.acts.NamedEnd.{NamedEnd}
use Rattle.strm_machine.specs.declared.streams.Side.{Side}
use Rattle.strm_machine.specs.declared.stops.Stop.TheVariants.{StoreTrapped}
use Rattle.strm_host_machine.specs.World.{World}
use Rattle.strm_host_machine.specs.Outcomes.{stops}
use Rattle.strm_host_machine.specs.HostRefusals.{refusal_in}
use Rattle.strm_host_machine.specs.Steps.{performs_in, unless_refused_in, outcome}

pub outcome-trapped : (world : World) (act : Act) → world.state.trapped ≡ true → outcome world act ≡ stops StoreTrapped world
unfolding outcome
outcome-trapped world act t = ap (λ b. cond b (stops StoreTrapped world) (unless_refused_in world act (refusal_in world act))) t

pub outcome-performs : (world : World) (act : Act) → world.state.trapped ≡ false → refusal_in world act ≡ None → outcome world act ≡ performs_in world act
unfolding outcome
outcome-performs world act t e =
    ap (λ b. cond b (stops StoreTrapped world) (unless_refused_in world act (refusal_in world act))) t
    ∙ ap (unless_refused_in world act) e

-- WHAT REFUSES A STEP THAT NAMES NO HOST END: its own reasons

pub refusal_in-on_end : (world : World) (side : Side) (end : NamedEnd) (act : EndAct) → refusal_in world (OnEnd side end act) ≡ refusal world.state (OnEnd side end act)
unfolding refusal_in refusal
refusal_in-on_end world side end act = refl

pub refusal_in-on_loose : (world : World) (reader : ℕ) (act : LooseAct) → refusal_in world (OnLoose reader act) ≡ refusal world.state (OnLoose reader act)
unfolding refusal_in refusal
refusal_in-on_loose world reader act = refl

pub refusal_in-drive : (world : World) → refusal_in world Drive ≡ None
unfolding refusal_in
refusal_in-drive world = refl
