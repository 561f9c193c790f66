use Rattle.std.proofs.Common.{◌≡◌, ◌*◌, length, take}
use Rattle.strm_lines.specs.Words.{hex_pairs}
use Rattle.strm_lines.proofs.texts.push_hex.Given as goal

abbrev pub invariant-loop-k : goal.invariant-loop-k
invariant-loop-k l = record {
  whole : length l.digits ≡ 129;
  done : take (2 * l.k) l.digits ≡ hex_pairs (take l.k l.bytes);
}
