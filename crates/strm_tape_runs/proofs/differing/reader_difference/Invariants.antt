use Rattle.std.proofs.Common.{◌≡◌, take, drop}
use Rattle.strm_buffers.specs.Tells.{told_by_reader}
use Rattle.strm_tape_runs.proofs.differing.reader_difference.Given as goal

abbrev pub invariant-loop-at : goal.invariant-loop-at
invariant-loop-at g l =
    take l.at (drop l.from (told_by_reader (g.H.HostEnds.tells l.hosts) l.number).said) ≡ take l.at l.said
