use Rattle.std.proofs.Common.{◌≡◌, ◌++◌, take}
use Rattle.std.specs.List.{flat_map}
use Rattle.strm_tape.specs.Spelling.{reader_record_bytes}
use Rattle.strm_tape.proofs.taping.put_reader_records.Given as goal

abbrev pub invariant-loop-k : goal.invariant-loop-k
invariant-loop-k l = l.out.items ≡ l.fn.out.items ++ flat_map reader_record_bytes (take l.k l.said)
