use Rattle.strm_shared.specs.Causes.{IsOf}
use Rattle.strm_shared.specs.Tokens.{Same}
use Rattle.strm_transmit_tests.proofs.shared.sleepers.all_called.Given as goal

abbrev pub invariant-loop-step : goal.invariant-loop-step
invariant-loop-step g l = IsOf l.store l.seat × Same l.initial.seat l.seat
