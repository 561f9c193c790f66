use Rattle.std.proofs.Common.{◌≡◌, ◌-◌, length, take}
use Rattle.strm_tape.specs.Reading.{fields}
use Rattle.strm_tape.proofs.TypeLemmas.{fronted}
use Rattle.strm_tape.proofs.parts.fields.Given as goal

abbrev pub invariant-loop-k : goal.invariant-loop-k
invariant-loop-k l = record {
  whole : length l.all ≡ 8;
  rest : fronted (take l.k l.all) (fields (l.count - l.k) l.rest) ≡ fields l.count l.bytes;
}
