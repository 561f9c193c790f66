use Rattle.std.proofs.Common.{sym, subst}
use Rattle.strm_machine.specs.Bases.{BasesStay}
use Rattle.strm_machine.specs.State.{State}
use Rattle.strm_guest_store.specs.Among.{IsAmongGuests}
use Rattle.strm_guest_store.proofs.AmongLemmas.{grown_among}
use Rattle.strm_guest_store.proofs.BaseLemmas.{grown_stays}
use Rattle.strm_guest_store.proofs.guest_store.GuestStore.memory_grown.Goals as goal

pub invariant_of-self : goal.invariant_of-self
invariant_of-self c =
    let there = rw (← c.self.view_is) at c.requires.there in
    let lent = rw (← c.self.view_is) at c.requires.lent in
    let small = rw (← c.self.view_is) at c.requires.small in
    subst IsAmongGuests (sym c.memory_grown.ensures)
    (grown_among c.self.inside.store c.args.guest c.args.more.items c.self.invariant (record { there = there; lent = lent; small = small }))

pub returns-clause-stays : goal.returns-clause-stays
returns-clause-stays c =
    let old = c.self.inside.store in
    rw (← c.self.view_is)
    (subst (λ (s : State). BasesStay old.guests s.guests) (sym c.memory_grown.ensures) (grown_stays old c.args.guest c.args.more.items))
