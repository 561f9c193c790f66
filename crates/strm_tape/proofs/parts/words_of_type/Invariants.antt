use Rattle.std.proofs.Common.{◌≡◌, ◌-◌, length, take}
use Rattle.strm_tape.specs.Reading.{many, type_word}
use Rattle.strm_tape.proofs.ManyLemmas.{in_front}
use Rattle.strm_tape.proofs.parts.words_of_type.Given as goal

abbrev pub invariant-loop-k : goal.invariant-loop-k
invariant-loop-k l = record {
  whole : length l.words ≡ 16;
  rest : in_front (take l.k l.words) (many type_word (l.count - l.k) l.rest) ≡ many type_word l.count l.bytes;
}
