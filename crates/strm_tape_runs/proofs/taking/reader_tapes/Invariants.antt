use Rattle.std.proofs.Common.{◌≡◌, take}
use Rattle.std.specs.Prelude.{All}
use Rattle.strm_tape.specs.Spelling.{IsReaderTape}
use Rattle.strm_tape_runs.specs.Marks.{reader_behind}
use Rattle.strm_tape_runs.specs.Taking.{zip_with}
use Rattle.strm_tape_runs.proofs.taking.reader_tapes.Given as goal

abbrev pub invariant-loop-r : goal.invariant-loop-r
invariant-loop-r g l =
    let told = (g.H.HostEnds.tells l.hosts).readers in
    (l.tapes.items ≡ take l.r (zip_with reader_behind l.marks told)) × All IsReaderTape l.tapes.items
