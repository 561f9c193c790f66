use Rattle.std.proofs.Common.{refl}
use Rattle.strm_machine.specs.Reactions.{lowers, performs}
use Rattle.strm_machine.specs.declared.replies.Reply.TheVariants as replies
use Rattle.strm_host_turns.proofs.WriterTurnLemmas.{handed_on}
use Rattle.strm_transmit.specs.Meets.{as_reply}
use Rattle.strm_transmit.proofs.StepLemmas.{is_admitted, reacts, meets_admitted, meets_not_admitted}
use Rattle.strm_transmit.proofs.StillLemmas.{still_fits}
use Rattle.strm_transmit.proofs.store.Store.lower.Goals as goal

pub lower_loose-requires-clause-may : goal.lower_loose-requires-clause-may
lower_loose-requires-clause-may c = (is_admitted c.args.self.now _ _ _ _ c.lower_fits.ensures c.in_ok-admit.ensures.exact).none

pub lower_loose-requires-clause-untrapped : goal.lower_loose-requires-clause-untrapped
lower_loose-requires-clause-untrapped c = (is_admitted c.args.self.now _ _ _ _ c.lower_fits.ensures c.in_ok-admit.ensures.exact).untrapped

pub returns-clause-meets : goal.returns-clause-meets
unfolding performs
returns-clause-meets c =
    meets_admitted c.args.self.now c.lower_loose.new.self _ (as_reply replies.Number c.lower_loose.result) _
    (reacts _ _ _ _ (λ _. lowers c.args.self.now c.args.reader c.args.guest c.args.ty)
    (is_admitted c.args.self.now _ _ _ _ c.lower_fits.ensures c.in_ok-admit.ensures.exact) refl)
    c.lower_loose.ensures

pub returns-in_err-admit-clause-meets : goal.returns-in_err-admit-clause-meets
returns-in_err-admit-clause-meets c =
    rw (handed_on c.from_residual.result c.from_residual.ensures.1)
    (meets_not_admitted _ _ _ _ _ c.lower_fits.ensures c.in_err-admit.ensures.exact)

pub returns-clause-fits : goal.returns-clause-fits
returns-clause-fits c =
    still_fits _ _ _ (as_reply replies.Number c.lower_loose.result) c.in_ok-admit.ensures.sound c.in_ok-admit.ensures.served (returns-clause-meets c)
