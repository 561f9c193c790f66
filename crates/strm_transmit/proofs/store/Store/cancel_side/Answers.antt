use Rattle.std.proofs.Common.{◌∙◌}
use Rattle.strm_machine.specs.Reactions.{cancels}
use Rattle.strm_machine.specs.declared.acts.EndAct.TheVariants.{Cancel}
use Rattle.strm_machine.proofs.ReactionLemmas.{performs-on_end}
use Rattle.strm_host_turns.proofs.WriterTurnLemmas.{handed_on}
use Rattle.strm_transmit.proofs.StepLemmas.{is_admitted, reacts, meets_not_admitted}
use Rattle.strm_transmit.proofs.StillLemmas.{done_fits}
use Rattle.strm_transmit.proofs.store.Store.cancel_side.Goals as goal

pub returns-clause-meets : goal.returns-clause-meets
returns-clause-meets c =
    reacts _ _ _ _ (λ s. cancels c.args.self.now s c.args.side)
    (is_admitted c.args.self.now _ _ _ _ c.cancel_found.ensures.exact c.in_ok-stream.ensures.exact)
    (performs-on_end c.args.self.now c.args.side c.args.end.now Cancel)
    ∙ c.cancel_on.ensures

pub returns-in_err-stream-clause-meets : goal.returns-in_err-stream-clause-meets
returns-in_err-stream-clause-meets c =
    rw (handed_on c.from_residual.result c.from_residual.ensures.1)
    (meets_not_admitted _ _ _ _ _ c.cancel_found.ensures.exact c.in_err-stream.ensures.exact)

pub returns-clause-fits : goal.returns-clause-fits
returns-clause-fits c = done_fits _ _ _ _ c.in_ok-stream.ensures.sound c.in_ok-stream.ensures.served (returns-clause-meets c)
