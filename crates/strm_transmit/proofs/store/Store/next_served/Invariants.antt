use Rattle.strm_transmit.specs.Turning.{NextAmong}
use Rattle.strm_transmit.proofs.NextLemmas.{below}
use Rattle.strm_transmit.proofs.store.Store.next_served.Given as goal

abbrev pub invariant-loop-number : goal.invariant-loop-number
invariant-loop-number g l = NextAmong l.self (below l.number) l.from l.least
