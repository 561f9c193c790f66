use Rattle.std.proofs.Common.{◌-◌, length}
use Rattle.strm_levels.proofs.levels.+make_room.Given as goal

abbrev pub decreases-make_room : goal.decreases-make_room
decreases-make_room l = length l.levels.now.items - l.level
