use Rattle.std.proofs.Common.{◌≡◌, ◌<◌, ◌^◌, drop}
use Rattle.strm_lines.specs.Reading.{read_to}
use Rattle.strm_lines.proofs.words.leading_any_number.Given as goal

abbrev pub invariant-loop-k : goal.invariant-loop-k
invariant-loop-k l = record {
  small : l.number < 2 ^ 32;
  rest : read_to l.number (drop l.k l.line) ≡ read_to 0 l.line;
}
