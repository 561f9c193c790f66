use Rattle.std.proofs.Common.{ℕ, ◌<◌, ◌≤◌, ◌-◌, length, get_or}
use Rattle.strm_waitable_sets.proofs.ready.above.Given as goal

abbrev pub invariant-loop-low : goal.invariant-loop-low
invariant-loop-low l =
    (l.low ≤ l.high) × (l.high ≤ length l.handles)
    × ((k : ℕ) → k < l.low → l.handle < get_or l.handles k 0)
    × ((k : ℕ) → l.high ≤ k → k < length l.handles → get_or l.handles k 0 ≤ l.handle)

abbrev pub decreases-loop-low : goal.decreases-loop-low
decreases-loop-low l = l.high - l.low
