use Rattle.strm_shared.specs.Causes.{IsOf}
use Rattle.strm_transmit_tests.proofs.shared.teams.works.Given as goal

abbrev pub invariant-loop-k : goal.invariant-loop-k
invariant-loop-k g l = IsOf l.store l.seat
