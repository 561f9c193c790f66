use Rattle.std.proofs.Common.{length}
use Rattle.strm_memory.proofs.lowers.+lower_parts.Given as goal

abbrev pub decreases-lower_parts : goal.decreases-lower_parts
decreases-lower_parts l = length l.nodes.now
