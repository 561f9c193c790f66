use Rattle.strm_host_machine.specs.Does.{Fits}
use Rattle.strm_bench.proofs.threads.bare.repeat.Given as goal

-- no host end is wanting
abbrev pub invariant-loop-round : goal.invariant-loop-round
invariant-loop-round g l =
    Fits l.store (g.H.HostEnds.tells l.hosts)
