use Rattle.std.proofs.Common.{◌≡◌, ◌-◌}
use Rattle.strm_tape.specs.Reading.{many, reader}
use Rattle.strm_tape.proofs.ManyLemmas.{in_front}
use Rattle.strm_tape.proofs.lists.readers.Given as goal

abbrev pub invariant-loop-k : goal.invariant-loop-k
invariant-loop-k l = in_front l.all.items (many reader (l.count - l.k) l.rest) ≡ many reader l.count l.bytes
