use Rattle.std.proofs.Common.{◌≡◌, ◌+◌, ◌-◌}
use Rattle.strm_memory.specs.Bytes.{to_le, put_at}
use Rattle.strm_memory.proofs.numbers.store.Given as goal

-- what has been stored, and the rest stored behind it, is the whole
abbrev pub invariant-loop-k : goal.invariant-loop-k
invariant-loop-k l = put_at l.bytes (l.at + l.k) (to_le (l.width - l.k) l.rest) ≡ put_at l.fn.bytes l.at (to_le l.width l.number)
