use Rattle.strm_host_machine.specs.Does.{Fits}
use Rattle.strm_bench.proofs.piped.Piping.feed_and_drive.Given as goal

abbrev pub invariant-loop : goal.invariant-loop
invariant-loop g l =
    Fits l.self.store (g.H.HostEnds.tells l.hosts)
