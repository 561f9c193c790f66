use Rattle.std.proofs.Common.{refl}
use Rattle.strm_machine.specs.Reactions.{shares, performs}
use Rattle.strm_machine.specs.declared.replies.Reply.TheVariants as replies
use Rattle.strm_machine.proofs.ContextStepLemmas.{transfer_fits}
use Rattle.strm_host_turns.proofs.WriterTurnLemmas.{handed_on}
use Rattle.strm_transmit.specs.Meets.{as_reply}
use Rattle.strm_transmit.proofs.StepLemmas.{is_admitted, reacts, meets_admitted, meets_not_admitted}
use Rattle.strm_transmit.proofs.StillLemmas.{still_fits}
use Rattle.strm_transmit.proofs.store.Store.error_context_transfer.Goals as goal

pub share-requires : goal.share-requires
share-requires c =
    let admitted = is_admitted c.args.self.now _ _ _ _ c.transfer_found.ensures c.in_ok-context.ensures.exact in
    rw admitted.same (transfer_fits c.args.self.now c.args.guest c.args.handle c.args.to c.sound.ensures admitted.none).share

pub returns-clause-meets : goal.returns-clause-meets
unfolding performs
returns-clause-meets c =
    meets_admitted c.args.self.now c.share.new.self _ (as_reply replies.Number c.share.result) _
    (reacts _ _ _ _ (λ number. shares c.args.self.now number c.args.to)
    (is_admitted c.args.self.now _ _ _ _ c.transfer_found.ensures c.in_ok-context.ensures.exact) refl)
    c.share.ensures

pub returns-in_err-context-clause-meets : goal.returns-in_err-context-clause-meets
returns-in_err-context-clause-meets c =
    rw (handed_on c.from_residual.result c.from_residual.ensures.1)
    (meets_not_admitted _ _ _ _ _ c.transfer_found.ensures c.in_err-context.ensures.exact)

pub returns-clause-fits : goal.returns-clause-fits
returns-clause-fits c =
    still_fits _ _ _ (as_reply replies.Number c.share.result) c.in_ok-context.ensures.sound c.in_ok-context.ensures.served (returns-clause-meets c)
