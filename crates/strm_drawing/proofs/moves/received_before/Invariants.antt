use Rattle.std.proofs.Common.{◌≡◌, map}
use Rattle.std.specs.List.{range_with_len}
use Rattle.strm_machine.specs.Moments.{received}
use Rattle.strm_drawing.proofs.moves.received_before.Given as goal

abbrev pub invariant-loop-k : goal.invariant-loop-k
invariant-loop-k l = l.counts ≡ map (λ s. received s l.store) (range_with_len l.span.first l.k)
