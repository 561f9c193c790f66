use Rattle.std.proofs.Common.{take}
use Rattle.strm_drawing.specs.Svg.{Shown, arrows_of_blocks}
use Rattle.strm_drawing.proofs.svg.push_blocks.Given as goal

abbrev pub invariant-loop-k : goal.invariant-loop-k
invariant-loop-k l = Shown l.lanes.all.items (arrows_of_blocks (take l.k l.blocks)) l.fn.out l.out
