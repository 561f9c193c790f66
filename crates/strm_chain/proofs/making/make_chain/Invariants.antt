use Rattle.std.proofs.Common.{◌+◌, length}
use Rattle.strm_chain.specs.Making.{AreMade, AreJoined}
use Rattle.strm_chain.proofs.making.make_chain.Given as goal

abbrev pub invariant-loop-stage : goal.invariant-loop-stage
invariant-loop-stage l = record {
  joined : AreJoined l.fn.input.items l.stage-index l.read l.stages l.player l.workers.items;
  made : AreMade (length l.stages + 2) (l.stage-index + 1) l.player;
}
