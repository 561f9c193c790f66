use Rattle.strm_transmit.proofs.store.Store.held.Goals as goal

pub returns : goal.returns
returns c = rw (← c.self.view_is) c.self.invariant.held
