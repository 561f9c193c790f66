-- The store's making leaves a store among guests, whose memories lie where they lay.
use Rattle.std.proofs.Common.{subst}
use Rattle.strm_codes.specs.declared.codes.TransmitIndex.TheVariants as index
use Rattle.strm_machine.specs.Bases.{BasesStay}
use Rattle.strm_machine.specs.State.{State}
use Rattle.strm_machine.specs.declared.acts.Act.TheVariants.{Make}
use Rattle.strm_machine.specs.declared.acts.Making.TheVariants.{Between}
use Rattle.strm_machine.specs.declared.replies.Reply.TheVariants as replies
use Rattle.strm_transmit.specs.Meets.{as_reply}
use Rattle.strm_guest_store.proofs.AgainLemmas.{again_among, again_stays}
use Rattle.strm_guest_store.proofs.guest_store.GuestStore.stream_new.Goals as goal

pub invariant_of-self : goal.invariant_of-self
invariant_of-self c =
    again_among c.self.inside.store c.new_between_again.new.self (as_reply replies.Pair c.new_between_again.result) c.args.guest c.args.guest (index.Stream c.args.payload) c.self.invariant
    c.new_between_again.ensures.meets c.new_between_again.ensures.grows c.new_between_again.ensures.sound c.new_between_again.ensures.fits

pub returns-clause-stays : goal.returns-clause-stays
returns-clause-stays c =
    subst (λ (s : State). BasesStay s.guests c.new_between_again.new.self.guests) c.self.view_is
    (again_stays c.self.inside.store c.new_between_again.new.self (as_reply replies.Pair c.new_between_again.result) (Make (Between c.args.guest c.args.guest (index.Stream c.args.payload))) c.self.invariant c.new_between_again.ensures.meets)
