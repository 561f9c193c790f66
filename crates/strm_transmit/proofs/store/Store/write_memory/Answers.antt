use Rattle.std.proofs.Common.{refl, ◌∙◌}
use Rattle.strm_machine.specs.Reactions.{performs}
use Rattle.strm_machine.specs.declared.acts.Act.TheVariants.{OnMemory}
use Rattle.strm_machine.specs.declared.acts.MemoryAct.TheVariants.{Poke}
use Rattle.strm_host_turns.proofs.WriterTurnLemmas.{handed_on}
use Rattle.strm_transmit.proofs.StepLemmas.{is_admitted, reacts, meets_not_admitted}
use Rattle.strm_transmit.proofs.StillLemmas.{done_fits}
use Rattle.strm_transmit.proofs.store.Store.write_memory.Goals as goal

pub put_bytes-requires : goal.put_bytes-requires
put_bytes-requires c = (is_admitted c.args.self.now _ _ _ _ c.write_fits.ensures c.in_ok-admit.ensures.exact).none

pub returns-clause-meets : goal.returns-clause-meets
returns-clause-meets c =
    reacts _ _ _ _ (λ _. performs c.args.self.now (OnMemory c.args.guest (Poke c.args.address c.args.bytes.now)))
    (is_admitted c.args.self.now _ _ _ _ c.write_fits.ensures c.in_ok-admit.ensures.exact) refl
    ∙ c.put_bytes.ensures

pub returns-in_err-admit-clause-meets : goal.returns-in_err-admit-clause-meets
returns-in_err-admit-clause-meets c =
    rw (handed_on c.from_residual.result c.from_residual.ensures.1)
    (meets_not_admitted _ _ _ _ _ c.write_fits.ensures c.in_err-admit.ensures.exact)

pub returns-clause-fits : goal.returns-clause-fits
returns-clause-fits c = done_fits _ _ _ _ c.in_ok-admit.ensures.sound c.in_ok-admit.ensures.served (returns-clause-meets c)
