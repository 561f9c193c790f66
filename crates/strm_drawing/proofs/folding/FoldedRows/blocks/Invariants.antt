use Rattle.std.proofs.Common.{◌≡◌, length}
use Rattle.strm_drawing.specs.Folding.{rows_kept, IsFolding}
use Rattle.strm_drawing.proofs.folding.FoldedRows.blocks.Given as goal

abbrev pub invariant-loop-rows : goal.invariant-loop-rows
invariant-loop-rows l = (rows_kept l.rows ≡ rows_kept l.fn.self) × IsFolding l.rows

abbrev pub decreases-loop-rows : goal.decreases-loop-rows
decreases-loop-rows l = length l.rows.tail.items
