use Rattle.strm_transmit.specs.Hosted.{StillFits}
use Rattle.strm_bench.proofs.taken.fill.Given as goal

abbrev pub invariant-loop : goal.invariant-loop
invariant-loop l = StillFits l.fn.store l.store
