use Rattle.std.proofs.Common.{◌≡◌, take}
use Rattle.std.specs.Prelude.{All}
use Rattle.strm_tape.specs.Spelling.{IsWriterTape}
use Rattle.strm_tape_runs.specs.Marks.{writer_behind}
use Rattle.strm_tape_runs.specs.Taking.{zip_with}
use Rattle.strm_tape_runs.proofs.taking.writer_tapes.Given as goal

abbrev pub invariant-loop-n : goal.invariant-loop-n
invariant-loop-n g l =
    let told = (g.H.HostEnds.tells l.hosts).writers in
    (l.tapes.items ≡ take l.n (zip_with writer_behind l.marks told)) × All IsWriterTape l.tapes.items
