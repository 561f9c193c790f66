use Rattle.std.proofs.Common.{◌≡◌, ◌+◌, ◌-◌, ◌≤◌, take, drop}
use Rattle.strm_memory.specs.Copies.{blended_on}
use Rattle.strm_memory.proofs.limits.blend_vectors.Given as goal

abbrev pub invariant-loop-done : goal.invariant-loop-done
invariant-loop-done g l = record {
  inside : l.done ≤ l.len;
  rest : blended_on (drop l.done (take l.len l.limits)) l.source (l.from + l.done) (l.to + l.done) l.destination
      ≡ blended_on (drop l.at (take l.len l.limits)) l.source (l.from + l.at) (l.to + l.at) l.fn.destination;
}

abbrev pub decreases-loop-done : goal.decreases-loop-done
decreases-loop-done g l = l.len - l.done
