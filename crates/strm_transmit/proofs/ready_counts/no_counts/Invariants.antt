use Rattle.std.proofs.Common.{◌≡◌, ℕ, length}
use Rattle.strm_levels.specs.Counts.{count_at}
use Rattle.strm_transmit.proofs.ready_counts.no_counts.Given as goal

abbrev pub invariant-loop : goal.invariant-loop
invariant-loop l = record { all : length l.counts ≡ l.counter; none : (g : ℕ) → count_at l.counts g ≡ 0 }
