use Rattle.std.proofs.Common.{◌≡◌, take}
use Rattle.strm_tape_runs.specs.Marks.{writer_behind}
use Rattle.strm_tape_runs.specs.Taking.{zip_with}
use Rattle.strm_tape_runs.proofs.differing.writers_difference.Given as goal

abbrev pub invariant-loop-n : goal.invariant-loop-n
invariant-loop-n g l =
    let told = (g.H.HostEnds.tells l.hosts).writers in
    take l.n (zip_with writer_behind l.marks told) ≡ take l.n l.tape.writers
