use Rattle.std.proofs.Common.{length}
use Rattle.strm_frames.proofs.TakingLemmas.{CountsSoFar}
use Rattle.strm_frames.proofs.taking.count.Given as goal

abbrev pub invariant-frames : goal.invariant-frames
invariant-frames l = CountsSoFar l.bytes l.rest l.lane l.total

abbrev pub decreases-frames : goal.decreases-frames
decreases-frames l = length l.rest
