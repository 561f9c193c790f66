use Rattle.strm_uses.proofs.TapeFacts.{Counted}
use Rattle.strm_uses.proofs.tape.produced.Given as goal

abbrev pub invariant-loop-k : goal.invariant-loop-k
invariant-loop-k l = Counted l.writer l.k l.count l.left.said
