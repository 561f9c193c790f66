use Rattle.std.proofs.Common.{◌≡◌, ℕ, ◌+◌, ◌-◌, ◌/◌, length}
use Rattle.strm_levels.specs.Counts.{count_at}
use Rattle.strm_levels.specs.Marks.{width}
use Rattle.strm_levels.proofs.level.Level.for_places.Given as goal

abbrev pub invariant-loop-level : goal.invariant-loop-level
invariant-loop-level l = (word : ℕ) → count_at l.level word ≡ 0

abbrev pub decreases-loop-level : goal.decreases-loop-level
decreases-loop-level l = l.places / width + 1 - length l.level
