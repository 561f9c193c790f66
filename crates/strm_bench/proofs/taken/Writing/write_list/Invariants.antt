use Rattle.strm_host_machine.specs.Does.{Fits}
use Rattle.strm_bench.proofs.taken.Writing.write_list.Given as goal

abbrev pub invariant-loop-piece : goal.invariant-loop-piece
invariant-loop-piece g l =
    Fits l.self.store (g.H.HostEnds.tells l.hosts)
