use Rattle.std.proofs.Common.{refl}
use Rattle.strm_machine.specs.Reactions.{performs}
use Rattle.strm_machine.specs.declared.acts.Act.TheVariants.{Make}
use Rattle.strm_machine.specs.declared.acts.Making.TheVariants.{Context}
use Rattle.strm_machine.specs.declared.replies.Reply.TheVariants as replies
use Rattle.strm_host_turns.proofs.WriterTurnLemmas.{handed_on}
use Rattle.strm_transmit.specs.Meets.{as_reply}
use Rattle.strm_transmit.proofs.StepLemmas.{is_admitted, reacts, meets_admitted, meets_not_admitted}
use Rattle.strm_transmit.proofs.StillLemmas.{still_fits}
use Rattle.strm_transmit.proofs.store.Store.error_context_new.Goals as goal

pub make_context-requires : goal.make_context-requires
make_context-requires c = (is_admitted c.args.self.now _ _ _ _ c.context_fits.ensures c.in_ok-admit.ensures.exact).none

pub returns-clause-meets : goal.returns-clause-meets
returns-clause-meets c =
    meets_admitted c.args.self.now c.make_context.new.self _ (as_reply replies.Number c.make_context.result) _
    (reacts _ _ _ _ (λ _. performs c.args.self.now (Make (Context c.args.guest c.args.address c.args.len))) (is_admitted c.args.self.now _ _ _ _ c.context_fits.ensures c.in_ok-admit.ensures.exact) refl)
    c.make_context.ensures

pub returns-in_err-admit-clause-meets : goal.returns-in_err-admit-clause-meets
returns-in_err-admit-clause-meets c =
    rw (handed_on c.from_residual.result c.from_residual.ensures.1)
    (meets_not_admitted _ _ _ _ _ c.context_fits.ensures c.in_err-admit.ensures.exact)

pub returns-clause-fits : goal.returns-clause-fits
returns-clause-fits c =
    still_fits _ _ _ (as_reply replies.Number c.make_context.result) c.in_ok-admit.ensures.sound c.in_ok-admit.ensures.served (returns-clause-meets c)
