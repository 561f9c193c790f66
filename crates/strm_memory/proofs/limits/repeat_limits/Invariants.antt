use Rattle.std.proofs.Common.{◌≡◌, ◌*◌, length, take}
use Rattle.strm_memory.specs.Copies.{repeated}
use Rattle.strm_memory.proofs.limits.repeat_limits.Given as goal

abbrev pub invariant-loop-k : goal.invariant-loop-k
invariant-loop-k g l = record {
  place : l.at ≡ l.size * l._k;
  len : length l.limits ≡ length l.fn.limits;
  period : take (l.size * l._k) l.limits ≡ repeated l._k (take l.size l.fn.limits);
}
