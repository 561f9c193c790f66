use Rattle.std.proofs.Common.{◌≡◌, ◌+◌, ◌-◌, ◌*◌, ◌≤◌, take}
use Rattle.strm_memory.specs.Copies.{blended_on, repeated}
use Rattle.strm_memory.proofs.limits.blend_periods.Given as goal

abbrev pub invariant-loop-done : goal.invariant-loop-done
invariant-loop-done l = record {
  inside : l.done ≤ l.count;
  rest : blended_on (repeated (l.count - l.done) (take l.size l.limits)) l.source (l.from + l.size * l.done) (l.to + l.size * l.done) l.destination
      ≡ blended_on (repeated l.count (take l.size l.limits)) l.source l.from l.to l.fn.destination;
}

abbrev pub decreases-loop-done : goal.decreases-loop-done
decreases-loop-done l = l.count - l.done
