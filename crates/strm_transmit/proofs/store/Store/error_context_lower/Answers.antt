use Rattle.std.proofs.Common.{sym, subst}
use Rattle.strm_machine.specs.Reactions.{Reaction}
use Rattle.strm_machine.specs.declared.replies.Reply.TheVariants as replies
use Rattle.strm_machine.proofs.ContextStepLemmas.{lower_context_fits}
use Rattle.strm_host_turns.proofs.WriterTurnLemmas.{handed_on}
use Rattle.strm_transmit.specs.Meets.{Meets, as_reply}
use Rattle.strm_transmit.proofs.ContextLemmas.{is_lowered, meets_not_lowered}
use Rattle.strm_transmit.proofs.StillLemmas.{lowered_fits}
use Rattle.strm_transmit.proofs.store.Store.error_context_lower.Goals as goal

pub share-requires : goal.share-requires
share-requires c =
    lower_context_fits c.args.self.now c.args.rep c.args.guest (is_lowered c.args.self.now c.args.rep c.args.guest _ _ _ c.lower_context_fits.ensures c.in_ok-admit.ensures.exact).none

pub returns-clause-meets : goal.returns-clause-meets
returns-clause-meets c =
    subst (λ (r : Reaction). Meets c.args.self.now c.share.new.self (as_reply replies.Number c.share.result) r)
    (sym (is_lowered c.args.self.now c.args.rep c.args.guest _ _ _ c.lower_context_fits.ensures c.in_ok-admit.ensures.exact).shared)
    c.share.ensures

pub returns-in_err-admit-clause-meets : goal.returns-in_err-admit-clause-meets
returns-in_err-admit-clause-meets c =
    rw (handed_on c.from_residual.result c.from_residual.ensures.1)
    (meets_not_lowered c.args.self.now c.args.rep c.args.guest _ _ _ c.lower_context_fits.ensures c.in_err-admit.ensures.exact)

pub returns-clause-fits : goal.returns-clause-fits
returns-clause-fits c =
    lowered_fits _ _ c.args.rep c.args.guest (as_reply replies.Number c.share.result) c.in_ok-admit.ensures.served (returns-clause-meets c)
