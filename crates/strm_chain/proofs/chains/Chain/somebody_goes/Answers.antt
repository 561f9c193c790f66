use Rattle.strm_chain.proofs.ChainLemmas.{goes_of}
use Rattle.strm_chain.proofs.chains.Chain.somebody_goes.Goals as goal

pub returns-clause-goes : goal.returns-clause-goes
returns-clause-goes c = rw (← c.self.view_is) (goes_of _ c.self.invariant c.played.ensures)
