use Rattle.std.proofs.Common.{length, sym, ap, ◌∙◌}
use Rattle.strm_buffers.proofs.ListingLemmas.{length-items_in}
use Rattle.strm_buffers.proofs.WindowLemmas.{lying_nowhere}
use Rattle.strm_buffers.proofs.windows.Window.marked.Goals as goal

pub returns-clause-exact : goal.returns-clause-exact
returns-clause-exact c = sym (length-items_in _ _ _ _ c.self.invariant.0.lie) ∙ ap (λ v. length v.marked) (ap lying_nowhere c.self.view_is)
