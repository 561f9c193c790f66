use Rattle.std.proofs.Common.{length, sym, ap, ◌∙◌}
use Rattle.strm_buffers.proofs.ListingLemmas.{length-items_in}
use Rattle.strm_buffers.proofs.WindowLemmas.{lying_nowhere}
use Rattle.strm_buffers.proofs.windows.Window.into_memory.Goals as goal

pub returns-clause-marked : goal.returns-clause-marked
returns-clause-marked c = sym (length-items_in _ _ _ _ c.self.invariant.0.lie) ∙ ap (λ v. length v.marked) (ap lying_nowhere c.self.view_is)
