use Rattle.std.proofs.Common.{◌≡◌, ◌-◌}
use Rattle.strm_tape.specs.Reading.{many, writer}
use Rattle.strm_tape.proofs.ManyLemmas.{in_front}
use Rattle.strm_tape.proofs.lists.writers.Given as goal

abbrev pub invariant-loop-k : goal.invariant-loop-k
invariant-loop-k l = in_front l.all.items (many writer (l.count - l.k) l.rest) ≡ many writer l.count l.bytes
