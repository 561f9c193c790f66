use Rattle.std.proofs.Common.{sym, subst}
use Rattle.std.specs.Vec.{vec_ptr}
use Rattle.strm_machine.specs.Bases.{BasesStayBut}
use Rattle.strm_machine.specs.State.{State}
use Rattle.strm_machine.proofs.GrowthLemmas.{may_grow}
use Rattle.strm_guest_store.specs.Among.{IsAmongGuests}
use Rattle.strm_guest_store.proofs.AmongLemmas.{moved_among}
use Rattle.strm_guest_store.proofs.BaseLemmas.{moved_stays}
use Rattle.strm_guest_store.proofs.guest_store.GuestStore.memory_moved.Goals as goal

pub invariant_of-self : goal.invariant_of-self
invariant_of-self c =
    let old = c.self.inside.store in
    let there = rw (← c.self.view_is) at c.requires.there in
    let lent = rw (← c.self.view_is) at c.requires.lent in
    let begins = rw (← c.self.view_is) at c.requires.begins in
    subst IsAmongGuests (sym c.memory_moved.ensures.moved)
    (moved_among old c.args.guest _ (vec_ptr c.args.bytes) c.self.invariant (may_grow old c.args.guest c.args.bytes.items there lent begins c.requires.small))

pub returns-clause-stays : goal.returns-clause-stays
returns-clause-stays c =
    let old = c.self.inside.store in
    rw (← c.self.view_is)
    (subst (λ (s : State). BasesStayBut c.args.guest old.guests s.guests) (sym c.memory_moved.ensures.moved) (moved_stays old c.args.guest _ (vec_ptr c.args.bytes)))
