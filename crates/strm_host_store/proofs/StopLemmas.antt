-- What is done to a host end stops no step: it is refused, or done; or the store was trapped before.
use Rattle.std.proofs.Common.{ℕ, Option, Some, None}
use Rattle.std.proofs.lemmas.Bool.{cond_both}
use Rattle.strm_codes.specs.declared.refusals.Refusal.{Refusal}
use Rattle.strm_machine.specs.declared.acts.Act.TheVariants.{OnHost}
use Rattle.strm_machine.specs.declared.acts.HostAct.{HostAct}
use Rattle.strm_machine.specs.declared.acts.HostAct.TheVariants.{New, Feed, Pipe, Grant}
use Rattle.strm_machine.specs.declared.stops.Stop.TheVariants.{StoreTrapped}
use Rattle.strm_host_machine.specs.World.{World}
use Rattle.strm_host_machine.specs.Outcomes.{Outcome, Goes, Stops, Stuck, stops}
use Rattle.strm_host_machine.specs.HostRefusals.{refusal_in}
use Rattle.strm_host_machine.specs.Attaching.{hosts_new, pipes}
use Rattle.strm_host_machine.specs.Steps.{outcome, performs_in, unless_refused_in}

-- no stop but that of a store which was trapped before
abbrev pub StopsTrapped : Outcome → Type 0
StopsTrapped (Goes reply world) = Unit {0}
StopsTrapped (Stops StoreTrapped writers readers) = Unit {0}
StopsTrapped (Stops stop writers readers) = ⊥
StopsTrapped Stuck = Unit {0}

on_host_goes : (world : World) (n : ℕ) (act : HostAct) (o : Option Refusal) → StopsTrapped (unless_refused_in world (OnHost n act) o)
unfolding performs_in hosts_new pipes
on_host_goes world n act (Some r) = tt
on_host_goes world n New None = tt
on_host_goes world n (Feed bytes) None = tt
on_host_goes world n (Pipe s) None = tt
on_host_goes world n (Grant count) None = tt

pub host_acts_stop_none : (world : World) (n : ℕ) (act : HostAct) → StopsTrapped (outcome world (OnHost n act))
unfolding outcome
host_acts_stop_none world n act =
    cond_both world.state.trapped (stops StoreTrapped world) (unless_refused_in world (OnHost n act) (refusal_in world (OnHost n act))) StopsTrapped (λ t. tt)
    (λ t. on_host_goes world n act (refusal_in world (OnHost n act)))
