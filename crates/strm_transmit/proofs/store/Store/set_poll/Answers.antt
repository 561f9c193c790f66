use Rattle.std.proofs.Common.{refl, ◌∙◌}
use Rattle.strm_machine.specs.WaitableSets.{ready_member}
use Rattle.strm_machine.specs.Reactions.{polls, performs}
use Rattle.strm_host_turns.proofs.WriterTurnLemmas.{handed_on}
use Rattle.strm_transmit.proofs.StepLemmas.{is_admitted, reacts, meets_not_admitted}
use Rattle.strm_transmit.proofs.StillLemmas.{done_fits}
use Rattle.strm_transmit.proofs.store.Store.set_poll.Goals as goal

pub returns-clause-meets : goal.returns-clause-meets
unfolding performs
returns-clause-meets c =
    reacts _ _ _ _ (λ n. polls c.args.self.now c.args.guest (ready_member c.args.self.now c.args.guest n))
    (is_admitted c.args.self.now _ _ _ _ c.poll_found.ensures.exact c.in_ok-number.ensures.exact) refl
    ∙ c.poll_number.ensures

pub returns-in_err-number-clause-meets : goal.returns-in_err-number-clause-meets
returns-in_err-number-clause-meets c =
    rw (handed_on c.from_residual.result c.from_residual.ensures.1)
    (meets_not_admitted _ _ _ _ _ c.poll_found.ensures.exact c.in_err-number.ensures.exact)

pub returns-clause-fits : goal.returns-clause-fits
returns-clause-fits c = done_fits _ _ _ _ c.in_ok-number.ensures.sound c.in_ok-number.ensures.served (returns-clause-meets c)
