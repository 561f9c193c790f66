use Rattle.strm_host_machine.specs.Does.{Fits}
use Rattle.strm_bench.proofs.taken.Writing.grant_and_write.Given as goal

abbrev pub invariant-loop-round : goal.invariant-loop-round
invariant-loop-round g l =
    Fits l.self.store (g.H.HostEnds.tells l.hosts)
