use Rattle.strm_drawing.proofs.FoldLemmas.{nothing_kept}
use Rattle.strm_drawing.proofs.folding.FoldedRows.new.Goals as goal

pub returns-clause-rows : goal.returns-clause-rows
returns-clause-rows c = nothing_kept _ _ _ c.new.ensures.items c.new-2.ensures.items c.new-3.ensures.items
