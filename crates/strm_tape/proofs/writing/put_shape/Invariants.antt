use Rattle.std.proofs.Common.{◌≡◌, ◌++◌, map, take}
use Rattle.strm_codes.specs.Sameness.{scalar_number}
use Rattle.strm_tape.proofs.writing.put_shape.Given as goal

abbrev pub invariant-loop-k : goal.invariant-loop-k
invariant-loop-k l = l.out.items ≡ l.fn.out.items ++ map scalar_number (take l.k l.scalars)
