use Rattle.std.proofs.Common.{length}
use Rattle.strm_mux.proofs.ScriptLemmas.{PiecesSoFar}
use Rattle.strm_mux.proofs.scripts.script.Given as goal

abbrev pub invariant-pieces : goal.invariant-pieces
invariant-pieces l = PiecesSoFar l.steps l.write l.read l.bytes l.rest

abbrev pub decreases-pieces : goal.decreases-pieces
decreases-pieces l = length l.rest
