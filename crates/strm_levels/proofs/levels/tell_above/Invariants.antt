-- The levels up to the one at which the loop stands tell what is so; the one above it does not yet tell of the place.
use Rattle.std.proofs.Common.{◌≡◌, ◌<◌, ◌-◌, length}
use Rattle.strm_levels.specs.Marks.{level_at, AreOverBut}
use Rattle.strm_levels.proofs.levels.tell_above.Given as goal

abbrev pub invariant-loop-level : goal.invariant-loop-level
invariant-loop-level l = record {
  over : AreOverBut l.levels.items l.level l.place;
  there : l.place < length (level_at l.levels.items l.level);
  lowest : level_at l.levels.items 0 ≡ level_at l.initial.levels.items 0;
}

abbrev pub decreases-loop-level : goal.decreases-loop-level
decreases-loop-level l = length l.levels.items - l.level
