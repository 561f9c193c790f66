use Rattle.std.proofs.Common.{◌≡◌, map, take}
use Rattle.strm_tape_runs.specs.Marks.{reader_mark_of}
use Rattle.strm_tape_runs.proofs.marks.reader_marks.Given as goal

abbrev pub invariant-loop-r : goal.invariant-loop-r
invariant-loop-r g l = l.marks.items ≡ map reader_mark_of (take l.r (g.H.HostEnds.tells l.hosts).readers)
