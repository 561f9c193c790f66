use Rattle.std.proofs.Common.{◌≡◌, ◌<◌, ℕ, get_or, length}
use Rattle.strm_lines.proofs.generator.first_bytes.Given as goal

abbrev pub invariant-loop-k : goal.invariant-loop-k
invariant-loop-k l = record {
  long : length l.bytes ≡ 64;
  each : (i : ℕ) → i < l.k → get_or l.bytes i 0 ≡ i;
}
