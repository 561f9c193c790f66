use Rattle.std.proofs.Common.{◌≡◌, map, take}
use Rattle.strm_tape_runs.specs.Marks.{mark_of}
use Rattle.strm_tape_runs.proofs.marks.writer_marks.Given as goal

abbrev pub invariant-loop-n : goal.invariant-loop-n
invariant-loop-n g l = l.marks.items ≡ map mark_of (take l.n (g.H.HostEnds.tells l.hosts).writers)
