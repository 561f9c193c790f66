use Rattle.std.specs.Vec.{vec_ptr}
use Rattle.strm_machine.specs.declared.replies.Reply.TheVariants as replies
use Rattle.strm_transmit.specs.Meets.{as_reply}
use Rattle.strm_guest_store.proofs.AmongLemmas.{added_among}
use Rattle.strm_guest_store.proofs.BaseLemmas.{added_stays}
use Rattle.strm_guest_store.proofs.guest_store.GuestStore.add_guest_at.Goals as goal

pub invariant_of-self : goal.invariant_of-self
invariant_of-self c =
    added_among c.self.inside.store c.add_guest_at.new.self (as_reply replies.Number c.add_guest_at.result) c.args.bytes.items (vec_ptr c.args.bytes) c.self.invariant c.add_guest_at.ensures.meets c.add_guest_at.ensures.fits

pub returns-clause-stays : goal.returns-clause-stays
returns-clause-stays c =
    rw (← c.self.view_is)
    (added_stays c.self.inside.store c.add_guest_at.new.self (as_reply replies.Number c.add_guest_at.result) c.args.bytes.items (vec_ptr c.args.bytes) c.add_guest_at.ensures.meets)
