use Rattle.std.proofs.Common.{◌≡◌, ◌+◌, ◌-◌, ◌*◌, ◌≤◌, length, false}
use Rattle.std.specs.Prelude.{None}
use Rattle.strm_chain.specs.Faults.{fault_of}
use Rattle.strm_chain.specs.Running.{AreSomeTurns}
use Rattle.strm_chain.specs.Measuring.{most_of, to_do}
use Rattle.strm_chain.specs.Keeping.{ChainState, BeginsChain, ChainGoesOn}
use Rattle.strm_chain.proofs.chains.chain_all.Given as goal

abbrev pub invariant-loop-chain : goal.invariant-loop-chain
invariant-loop-chain l = record {
  from : (first : ChainState) × BeginsChain l.fn.stages l.fn.input.items l.fn.chunk first × AreSomeTurns (length first.workers - 1) first.chunk first.play l.chain.play × ChainGoesOn first l.chain;
  runs : l.chain.failed ≡ false;
  spent : length l.chain.play.steps + 20 * to_do l.chain.play.state l.chain.workers ≤ 800 * most_of l.fn.stages (length l.fn.input.items) + 819;
  none : fault_of l.fn.stages (length l.fn.input.items) ≡ None;
}

abbrev pub decreases-loop-chain : goal.decreases-loop-chain
decreases-loop-chain l = to_do l.chain.play.state l.chain.workers
