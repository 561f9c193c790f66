use Rattle.std.proofs.Common.{take}
use Rattle.strm_drawing.specs.Moves.{arrows_in}
use Rattle.strm_drawing.specs.Svg.{Shown}
use Rattle.strm_drawing.proofs.svg.push_rows.Given as goal

abbrev pub invariant-loop-k : goal.invariant-loop-k
invariant-loop-k l = Shown l.lanes.all.items (arrows_in (take l.k l.rows)) l.fn.out l.out
