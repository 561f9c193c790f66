use Rattle.std.proofs.Common.{◌≡◌, take}
use Rattle.strm_tape_runs.specs.Marks.{reader_behind}
use Rattle.strm_tape_runs.specs.Taking.{zip_with}
use Rattle.strm_tape_runs.proofs.differing.readers_difference.Given as goal

abbrev pub invariant-loop-r : goal.invariant-loop-r
invariant-loop-r g l =
    let told = (g.H.HostEnds.tells l.hosts).readers in
    take l.r (zip_with reader_behind l.marks told) ≡ take l.r l.tape.readers
