use Rattle.std.proofs.Common.{length}
use Rattle.strm_codes.proofs.measures.+skip.Given as goal

abbrev pub decreases-skip : goal.decreases-skip
decreases-skip l = length l.nodes.now
