use Rattle.std.proofs.Common.{◌≡◌, ◌-◌}
use Rattle.strm_tape.specs.Reading.{many, step}
use Rattle.strm_tape.proofs.ManyLemmas.{in_front}
use Rattle.strm_tape.proofs.lists.steps.Given as goal

abbrev pub invariant-loop-k : goal.invariant-loop-k
invariant-loop-k l = in_front l.all.items (many step (l.count - l.k) l.rest) ≡ many step l.count l.bytes
