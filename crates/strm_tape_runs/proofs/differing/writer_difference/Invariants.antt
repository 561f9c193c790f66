use Rattle.std.proofs.Common.{◌≡◌, take, drop}
use Rattle.strm_buffers.specs.Tells.{told_by}
use Rattle.strm_tape_runs.proofs.differing.writer_difference.Given as goal

abbrev pub invariant-loop-at : goal.invariant-loop-at
invariant-loop-at g l =
    (take l.at (drop l.from (told_by (g.H.HostEnds.tells l.hosts) l.number).said) ≡ take l.at l.tape.said)
    × (l.coming.said ≡ drop l.at l.tape.said)
