use Rattle.std.proofs.Common.{◌≡◌, ℕ, ◌+◌, ◌-◌, length}
use Rattle.strm_waitable_sets.specs.Ready.{known}
use Rattle.strm_waitable_sets.proofs.ready.widen.Given as goal

abbrev pub invariant-loop-slots : goal.invariant-loop-slots
invariant-loop-slots l = (other : ℕ) → known l.slots.items other ≡ known l.initial.slots.items other

abbrev pub decreases-loop-slots : goal.decreases-loop-slots
decreases-loop-slots l = l.number + 1 - length l.slots.items
