use Rattle.std.proofs.Common.{◌∙◌, ap}
use Rattle.strm_buffers.proofs.MarkLemmas.{standing_kept}
use Rattle.strm_buffers.proofs.WindowLemmas.{lying_nowhere}
use Rattle.strm_buffers.proofs.windows.Window.lent.Goals as goal

pub returns : goal.returns
returns c = c.bytes.ensures ∙ standing_kept c.self.inside.payload _ c.self.inside.kept.items _ _ _ _ _ (lying_nowhere c.args.self.now) c.self.invariant.0 (ap lying_nowhere c.self.view_is) c.requires
