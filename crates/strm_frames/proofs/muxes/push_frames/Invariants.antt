use Rattle.std.proofs.Common.{length}
use Rattle.strm_frames.proofs.MuxLemmas.{PushesSoFar}
use Rattle.strm_frames.proofs.muxes.push_frames.Given as goal

abbrev pub invariant-pieces : goal.invariant-pieces
invariant-pieces l = PushesSoFar l.lane l.bytes l.rest l.initial.out.items l.out.items

abbrev pub decreases-pieces : goal.decreases-pieces
decreases-pieces l = length l.rest
