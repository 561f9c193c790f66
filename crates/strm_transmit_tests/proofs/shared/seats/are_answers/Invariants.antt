use Rattle.strm_shared.specs.Causes.{IsOf}
use Rattle.strm_shared.specs.Tokens.{Same}
use Rattle.strm_transmit_tests.proofs.shared.seats.are_answers.Given as goal

abbrev pub invariant-loop-row : goal.invariant-loop-row
invariant-loop-row g l = IsOf l.store l.seat × Same l.initial.seat l.seat
