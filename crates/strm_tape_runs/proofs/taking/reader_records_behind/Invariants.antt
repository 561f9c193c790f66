use Rattle.std.proofs.Common.{◌≡◌, take, drop}
use Rattle.std.specs.Prelude.{All}
use Rattle.strm_tape.specs.Spelling.{IsReaderRecord}
use Rattle.strm_buffers.specs.Tells.{told_by_reader}
use Rattle.strm_tape_runs.proofs.taking.reader_records_behind.Given as goal

abbrev pub invariant-loop-k : goal.invariant-loop-k
invariant-loop-k g l =
    (l.records.items ≡ take l.k (drop l.from (told_by_reader (g.H.HostEnds.tells l.hosts) l.number).said))
    × All IsReaderRecord l.records.items
