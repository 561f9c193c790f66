use Rattle.strm_chain.proofs.playing.Player.played.Goals as goal

pub returns : goal.returns
returns c = rw (← c.self.view_is) c.self.invariant
