use Rattle.std.proofs.Common.{◌≡◌, ◌-◌}
use Rattle.strm_tape.specs.Reading.{many, read_reader_record}
use Rattle.strm_tape.proofs.ManyLemmas.{in_front}
use Rattle.strm_tape.proofs.lists.reader_records.Given as goal

abbrev pub invariant-loop-k : goal.invariant-loop-k
invariant-loop-k l = in_front l.all.items (many read_reader_record (l.count - l.k) l.rest) ≡ many read_reader_record l.count l.bytes
