use Rattle.std.proofs.Common.{map}
use Rattle.strm_frames.proofs.TakingLemmas.{RetractsSoFar}
use Rattle.strm_frames.proofs.taking.retract.Given as goal

abbrev pub invariant-loop-lane : goal.invariant-loop-lane
invariant-loop-lane l = RetractsSoFar l.bytes (map (λ v. v.items) l.initial.lanes) (map (λ v. v.items) l.lanes) l.lane
