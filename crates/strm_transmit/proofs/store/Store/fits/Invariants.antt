use Rattle.strm_transmit.proofs.NextLemmas.{FitBelow}
use Rattle.strm_transmit.proofs.store.Store.fits.Given as goal

abbrev pub invariant-loop-number : goal.invariant-loop-number
invariant-loop-number g l =
    FitBelow l.self (g.H.HostEnds.tells l.hosts) l.number
