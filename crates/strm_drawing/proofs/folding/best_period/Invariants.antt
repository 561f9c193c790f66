use Rattle.std.proofs.Common.{◌<◌, ◌≤◌, length}
use Rattle.std.specs.Prelude.{IfSome}
use Rattle.strm_drawing.proofs.folding.best_period.Given as goal

abbrev pub invariant-loop-period : goal.invariant-loop-period
invariant-loop-period l = IfSome l.best (λ period. (0 < period) × (period ≤ length l.rows))
