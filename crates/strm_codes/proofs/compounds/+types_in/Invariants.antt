use Rattle.std.proofs.Common.{length}
use Rattle.strm_codes.proofs.compounds.+types_in.Given as goal

abbrev pub decreases-types_in : goal.decreases-types_in
decreases-types_in l = length l.nodes.now
