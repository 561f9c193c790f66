use Rattle.strm_shared.specs.Causes.{IsOf}
use Rattle.strm_bench.proofs.threads.shared.passes.Given as goal

abbrev pub invariant-loop : goal.invariant-loop
invariant-loop g l = IsOf l.store l.seat
