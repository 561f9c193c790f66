use Rattle.strm_shared.specs.Causes.{IsOf}
use Rattle.strm_shared.specs.Tokens.{Same}
use Rattle.strm_transmit_tests.proofs.shared.many.with_six_guests.Given as goal

abbrev pub invariant-loop-guest : goal.invariant-loop-guest
invariant-loop-guest g l = IsOf l.store l.seat × Same l.initial.seat l.seat
