use Rattle.std.proofs.Common.{refl, ◌∙◌}
use Rattle.strm_machine.specs.Reactions.{texts, performs}
use Rattle.strm_host_turns.proofs.WriterTurnLemmas.{handed_on}
use Rattle.strm_transmit.proofs.StepLemmas.{is_admitted, reacts, meets_not_admitted}
use Rattle.strm_transmit.proofs.StillLemmas.{done_fits}
use Rattle.strm_transmit.proofs.store.Store.error_context_message.Goals as goal

pub tell_context-requires : goal.tell_context-requires
tell_context-requires c =
    let admitted = is_admitted c.args.self.now _ _ _ _ c.text_found.ensures c.in_ok-context.ensures.exact in
    record { may = admitted.none; context = admitted.same }

pub returns-clause-meets : goal.returns-clause-meets
unfolding performs
returns-clause-meets c =
    reacts _ _ _ _ (λ _. texts c.args.self.now c.args.guest c.args.handle c.args.address)
    (is_admitted c.args.self.now _ _ _ _ c.text_found.ensures c.in_ok-context.ensures.exact) refl
    ∙ c.tell_context.ensures

pub returns-in_err-context-clause-meets : goal.returns-in_err-context-clause-meets
returns-in_err-context-clause-meets c =
    rw (handed_on c.from_residual.result c.from_residual.ensures.1)
    (meets_not_admitted _ _ _ _ _ c.text_found.ensures c.in_err-context.ensures.exact)

pub returns-clause-fits : goal.returns-clause-fits
returns-clause-fits c = done_fits _ _ _ _ c.in_ok-context.ensures.sound c.in_ok-context.ensures.served (returns-clause-meets c)
