use Rattle.std.proofs.Common.{◌≡◌, ℕ, ◌<◌, ◌≤◌, ◌-◌, true, length, is_some}
use Rattle.strm_waitable_sets.specs.Slots.{slot_at}
use Rattle.strm_waitable_sets.proofs.slots.first_free.Given as goal

abbrev pub invariant-loop-number : goal.invariant-loop-number
invariant-loop-number l =
    (l.number ≤ length l.slots)
    × ((before : ℕ) → before < l.number → is_some (slot_at l.slots before) ≡ true)

abbrev pub decreases-loop-number : goal.decreases-loop-number
decreases-loop-number l = length l.slots - l.number
