use Rattle.std.proofs.Common.{◌≡◌, ◌-◌, ◌%◌, length, take, false}
use Rattle.std.specs.Prelude.{map}
use Rattle.strm_chain.specs.Running.{AreTurns}
use Rattle.strm_chain.specs.Keeping.{ChainGoesOn}
use Rattle.strm_chain.proofs.chains.take_turns.Given as goal

abbrev pub invariant-loop-who : goal.invariant-loop-who
invariant-loop-who l = record {
  turns : AreTurns (length l.fn.chain.workers - 1) l.fn.chain.chunk (map (λ s. s % length l.fn.chain.workers) (take l.who-index l.schedule)) l.fn.chain.play l.chain.play;
  goes_on : ChainGoesOn l.fn.chain l.chain;
  runs : l.chain.failed ≡ false;
}
