use Rattle.std.proofs.Common.{◌≡◌, ◌-◌}
use Rattle.std.specs.Option.{option_map}
use Rattle.strm_tape.specs.Reading.{many, read_writer_record}
use Rattle.strm_tape.proofs.lists.after_records.Given as goal

abbrev pub invariant-loop-k : goal.invariant-loop-k
invariant-loop-k l =
    option_map (λ p. p.1) (many (read_writer_record l.payload) (l.count - l.k) l.rest) ≡ option_map (λ p. p.1) (many (read_writer_record l.payload) l.count l.bytes)
