use Rattle.std.proofs.Common.{take}
use Rattle.std.specs.Prelude.{All}
use Rattle.strm_tape_runs.specs.Taking.{HoldsNone}
use Rattle.strm_tape_runs.proofs.marks.first_holding.Given as goal

abbrev pub invariant-loop-n : goal.invariant-loop-n
invariant-loop-n g l =
    All HoldsNone (take l.n (g.H.HostEnds.tells l.hosts).writers)
