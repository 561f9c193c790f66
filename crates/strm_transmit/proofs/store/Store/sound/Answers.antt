use Rattle.strm_transmit.proofs.store.Store.sound.Goals as goal

pub returns : goal.returns
returns c = rw (← c.self.view_is) c.self.invariant.sound
