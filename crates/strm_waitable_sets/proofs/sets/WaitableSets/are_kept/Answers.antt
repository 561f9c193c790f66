use Rattle.strm_waitable_sets.proofs.TieLemmas.{kept}
use Rattle.strm_waitable_sets.proofs.sets.WaitableSets.are_kept.Goals as goal

pub returns : goal.returns
returns c = rw (← c.self.view_is) (kept c.self.inside.sets.items c.self.inside.homes.items c.self.inside.hint c.self.invariant)
