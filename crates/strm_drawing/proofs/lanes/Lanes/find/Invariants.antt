use Rattle.std.proofs.Common.{◌≢◌, ◌≤◌, length, drop}
use Rattle.std.specs.Prelude.{All}
use Rattle.strm_drawing.proofs.lanes.Lanes.find.Given as goal

-- from the place on none is the lane
abbrev pub invariant-loop-place : goal.invariant-loop-place
invariant-loop-place l = (l.place ≤ length l.all) × All (λ other. other ≢ l.lane) (drop l.place l.all)

abbrev pub decreases-loop-place : goal.decreases-loop-place
decreases-loop-place l = l.place
