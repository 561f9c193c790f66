use Rattle.strm_machine.specs.declared.replies.Reply.TheVariants as replies
use Rattle.strm_places.specs.Lives.{guest_with, begin_reasons}
use Rattle.strm_places.proofs.LivesLemmas.{begin_replaces}
use Rattle.strm_transmit.specs.Meets.{as_reply}
use Rattle.strm_guest_store.proofs.LivesLemmas.{begun_among, begun_stays}
use Rattle.strm_guest_store.proofs.guest_store.GuestStore.begin_guest.Goals as goal

pub invariant_of-self : goal.invariant_of-self
invariant_of-self c =
    begun_among c.self.inside.store c.begin_guest.new.self c.args.guest (guest_with c.args.size) (begin_reasons c.self.inside.store c.args.size) (as_reply (λ _. replies.Done) c.begin_guest.result) c.self.invariant
    (begin_replaces c.self.inside.store c.args.guest c.args.size (rw (← c.self.view_is) at c.requires.there) (rw (← c.self.view_is) at c.requires.unused) c.self.invariant.unhosted.sound)
    c.begin_guest.ensures.meets c.begin_guest.ensures.fits

pub returns-clause-stays : goal.returns-clause-stays
returns-clause-stays c =
    rw (← c.self.view_is)
    (begun_stays c.self.inside.store c.begin_guest.new.self c.args.guest (guest_with c.args.size) (begin_reasons c.self.inside.store c.args.size) (as_reply (λ _. replies.Done) c.begin_guest.result) c.begin_guest.ensures.meets)
