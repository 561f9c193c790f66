use Rattle.std.proofs.Common.{◌≡◌, ◌+◌, ◌-◌, ◌*◌, ◌≤◌, length, false}
use Rattle.strm_chain.specs.Running.{AreSomeTurns}
use Rattle.strm_chain.specs.Keeping.{ChainGoesOn}
use Rattle.strm_chain.proofs.RoundLemmas.{SoFar}
use Rattle.strm_chain.proofs.chains.take_round.Given as goal

abbrev pub invariant-loop-who : goal.invariant-loop-who
invariant-loop-who l = record {
  turns : AreSomeTurns (length l.fn.chain.workers - 1) l.fn.chain.chunk l.fn.chain.play l.chain.play;
  goes_on : ChainGoesOn l.fn.chain l.chain;
  runs : l.chain.failed ≡ false;
  short : length l.chain.play.steps ≤ length l.fn.chain.play.steps + 2 * l.who;
  round : SoFar l.who l.fn.chain.play.state l.fn.chain.workers l.chain.play.state l.chain.workers;
}
