use Rattle.strm_shared.specs.Causes.{IsOf}
use Rattle.strm_shared.specs.Tokens.{Same}
use Rattle.strm_transmit_tests.proofs.shared.stores.is_awaited.Given as goal

abbrev pub invariant-loop : goal.invariant-loop
invariant-loop g l = IsOf l.store l.seat × Same l.initial.seat l.seat
