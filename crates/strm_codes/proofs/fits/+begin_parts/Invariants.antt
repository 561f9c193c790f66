use Rattle.std.proofs.Common.{length}
use Rattle.strm_codes.proofs.fits.+begin_parts.Given as goal

abbrev pub decreases-begin_parts : goal.decreases-begin_parts
decreases-begin_parts l = length l.nodes.now
