use Rattle.std.proofs.Common.{refl}
use Rattle.strm_machine.specs.Reactions.{performs}
use Rattle.strm_machine.specs.declared.acts.Act.TheVariants.{Make}
use Rattle.strm_machine.specs.declared.acts.Making.TheVariants.{Guest}
use Rattle.strm_machine.specs.declared.replies.Reply.TheVariants as replies
use Rattle.strm_host_turns.proofs.WriterTurnLemmas.{handed_on}
use Rattle.strm_transmit.specs.Meets.{as_reply}
use Rattle.strm_transmit.proofs.StepLemmas.{is_admitted, reacts, meets_admitted, meets_not_admitted}
use Rattle.strm_transmit.proofs.StillLemmas.{still_fits}
use Rattle.strm_transmit.proofs.store.Store.add_guest.Goals as goal

pub push_guest-requires : goal.push_guest-requires
push_guest-requires c = (is_admitted c.args.self.now _ _ _ _ c.guest_fits.ensures c.in_ok-admit.ensures.exact).none

pub returns-clause-meets : goal.returns-clause-meets
returns-clause-meets c =
    meets_admitted c.args.self.now c.push_guest.new.self _ (as_reply replies.Number c.push_guest.result) _
    (reacts _ _ _ _ (λ _. performs c.args.self.now (Make (Guest c.args.size))) (is_admitted c.args.self.now _ _ _ _ c.guest_fits.ensures c.in_ok-admit.ensures.exact) refl)
    c.push_guest.ensures

pub returns-in_err-admit-clause-meets : goal.returns-in_err-admit-clause-meets
returns-in_err-admit-clause-meets c =
    rw (handed_on c.from_residual.result c.from_residual.ensures.1)
    (meets_not_admitted _ _ _ _ _ c.guest_fits.ensures c.in_err-admit.ensures.exact)

pub returns-clause-fits : goal.returns-clause-fits
returns-clause-fits c =
    still_fits _ _ _ (as_reply replies.Number c.push_guest.result) c.in_ok-admit.ensures.sound c.in_ok-admit.ensures.served (returns-clause-meets c)
