use Rattle.std.proofs.Common.{◌-◌, length}
use Rattle.strm_levels.proofs.levels.+next_at.Given as goal

abbrev pub decreases-next_at : goal.decreases-next_at
decreases-next_at l = length l.levels.now - l.level
