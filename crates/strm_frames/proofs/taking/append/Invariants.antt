use Rattle.std.proofs.Common.{length, map}
use Rattle.strm_frames.proofs.TakingLemmas.{AppendsSoFar}
use Rattle.strm_frames.proofs.taking.append.Given as goal

abbrev pub invariant-frames : goal.invariant-frames
invariant-frames l = AppendsSoFar l.bytes l.rest (map (λ v. v.items) l.initial.lanes) (map (λ v. v.items) l.lanes)

abbrev pub decreases-frames : goal.decreases-frames
decreases-frames l = length l.rest
