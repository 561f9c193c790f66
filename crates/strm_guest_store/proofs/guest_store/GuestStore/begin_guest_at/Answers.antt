use Rattle.std.proofs.Common.{length}
use Rattle.std.specs.Vec.{vec_ptr}
use Rattle.strm_machine.specs.Growth.{guest_at}
use Rattle.strm_machine.specs.declared.replies.Reply.TheVariants as replies
use Rattle.strm_places.specs.Lives.{begin_at_reasons}
use Rattle.strm_places.proofs.LivesLemmas.{begin_at_replaces}
use Rattle.strm_transmit.specs.Meets.{as_reply}
use Rattle.strm_guest_store.proofs.LivesLemmas.{begun_among, begun_stays}
use Rattle.strm_guest_store.proofs.guest_store.GuestStore.begin_guest_at.Goals as goal

pub invariant_of-self : goal.invariant_of-self
invariant_of-self c =
    begun_among c.self.inside.store c.begin_guest_at.new.self c.args.guest (guest_at c.args.bytes.items (vec_ptr c.args.bytes)) (begin_at_reasons (length c.args.bytes.items)) (as_reply (λ _. replies.Done) c.begin_guest_at.result) c.self.invariant
    (begin_at_replaces c.self.inside.store c.args.guest c.args.bytes.items (vec_ptr c.args.bytes) (rw (← c.self.view_is) at c.requires.there) (rw (← c.self.view_is) at c.requires.unused) c.self.invariant.unhosted.sound)
    c.begin_guest_at.ensures.meets c.begin_guest_at.ensures.fits

pub returns-clause-stays : goal.returns-clause-stays
returns-clause-stays c =
    rw (← c.self.view_is)
    (begun_stays c.self.inside.store c.begin_guest_at.new.self c.args.guest (guest_at c.args.bytes.items (vec_ptr c.args.bytes)) (begin_at_reasons (length c.args.bytes.items)) (as_reply (λ _. replies.Done) c.begin_guest_at.result) c.begin_guest_at.ensures.meets)
