use Rattle.std.proofs.Common.{◌≡◌, ◌-◌, length, take}
use Rattle.strm_lines.specs.Reading.{fields_read}
use Rattle.strm_lines.proofs.HexLemmas.{with_front}
use Rattle.strm_lines.proofs.words.fields.Given as goal

abbrev pub invariant-loop-k : goal.invariant-loop-k
invariant-loop-k l = record {
  whole : length l.scalars ≡ 8;
  rest : with_front (take l.k l.scalars) (fields_read (8 - l.k) l.rest) ≡ fields_read 8 l.word;
}
