use Rattle.strm_shared.specs.Causes.{IsOf}
use Rattle.strm_bench.proofs.threads.shared.prepared.Given as goal

abbrev pub invariant-loop-guest : goal.invariant-loop-guest
invariant-loop-guest g l = IsOf l.store l.seat
