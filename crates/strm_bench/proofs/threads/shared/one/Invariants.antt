use Rattle.strm_shared.specs.Causes.{IsOf}
use Rattle.strm_bench.proofs.threads.shared.one.Given as goal

abbrev pub invariant-loop-round : goal.invariant-loop-round
invariant-loop-round g l = IsOf l.store l.seat
