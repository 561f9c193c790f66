use Rattle.std.proofs.Common.{◌≡◌, take, drop}
use Rattle.std.specs.Prelude.{All}
use Rattle.strm_codes.specs.Types.{payload_of}
use Rattle.strm_tape.specs.Spelling.{IsWriterRecord}
use Rattle.strm_buffers.specs.Tells.{told_by}
use Rattle.strm_tape_runs.proofs.taking.writer_records_behind.Given as goal

abbrev pub invariant-loop-k : goal.invariant-loop-k
invariant-loop-k g l =
    (l.records.items ≡ take l.k (drop l.from (told_by (g.H.HostEnds.tells l.hosts) l.number).said))
    × All (IsWriterRecord (payload_of l.mark.ty)) l.records.items
