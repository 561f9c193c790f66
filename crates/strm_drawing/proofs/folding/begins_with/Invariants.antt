use Rattle.std.proofs.Common.{◌≡◌, take}
use Rattle.strm_drawing.proofs.folding.begins_with.Given as goal

abbrev pub invariant-loop-k : goal.invariant-loop-k
invariant-loop-k l = take l.k l.rows ≡ take l.k l.others
