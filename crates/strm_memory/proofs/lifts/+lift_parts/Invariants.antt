use Rattle.std.proofs.Common.{length}
use Rattle.strm_memory.proofs.lifts.+lift_parts.Given as goal

abbrev pub decreases-lift_parts : goal.decreases-lift_parts
decreases-lift_parts l = length l.nodes.now
