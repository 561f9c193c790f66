use Rattle.strm_transmit.proofs.steps.perform_apart.Goals as goal

pub returns-clause-meets : goal.returns-clause-meets
returns-clause-meets g c = rw c.of.ensures at c.perform.ensures.meets
