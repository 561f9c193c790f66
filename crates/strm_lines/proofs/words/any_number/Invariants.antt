use Rattle.std.proofs.Common.{◌≡◌, ◌<◌, ◌^◌, drop}
use Rattle.strm_lines.specs.Reading.{digits_from}
use Rattle.strm_lines.proofs.words.any_number.Given as goal

abbrev pub invariant-loop-byte : goal.invariant-loop-byte
invariant-loop-byte l = record {
  small : l.number < 2 ^ 32;
  rest : digits_from l.number (drop l.byte-index l.word) ≡ digits_from 0 l.word;
}
