-- One that is done is the machine's step.
use Rattle.std.proofs.Common.{Ok, subst}
use Rattle.strm_machine.specs.Bases.{BasesStay}
use Rattle.strm_machine.specs.State.{State}
use Rattle.strm_transmit.specs.BadItems.{operation_step}
use Rattle.strm_guest_store.proofs.BaseLemmas.{operation-bases}
use Rattle.strm_guest_store.proofs.OperateLemmas.{operated_among, operated_meets}
use Rattle.strm_guest_store.proofs.guest_store.GuestStore.operate.Goals as goal

pub invariant_of-self : goal.invariant_of-self
invariant_of-self c =
    operated_among c.self.inside.store c.operate_or_stay.new.self c.args.side c.args.end.now c.args.address c.args.count c.self.invariant
    c.in-Ok.code c.operate_or_stay.ensures.fits c.in-Ok.ensures.meets

pub returns-in-Ok-clause-stays : goal.returns-in-Ok-clause-stays
returns-in-Ok-clause-stays c =
    let old = c.self.inside.store in
    let new = c.operate_or_stay.new.self in
    subst (λ (s : State). BasesStay s.guests new.guests) c.self.view_is
    (operation-bases old new (Ok c.in-Ok.code) (operation_step c.args.side c.args.end.now c.args.address c.args.count) c.self.invariant
    (operated_meets old new c.args.side c.args.end.now c.args.address c.args.count c.self.invariant c.in-Ok.code c.in-Ok.ensures.meets))
