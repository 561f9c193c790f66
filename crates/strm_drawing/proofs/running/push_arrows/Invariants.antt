use Rattle.std.proofs.Common.{◌≡◌, ◌++◌, map}
use Rattle.std.specs.List.{flat_map, range_with_len}
use Rattle.strm_machine.specs.Moments.{received}
use Rattle.strm_machine.specs.State.{State}
use Rattle.strm_drawing.specs.declared.arrows.Row.TheVariants as rows
use Rattle.strm_drawing.specs.Folding.{rows_kept, IsFolding}
use Rattle.strm_drawing.specs.Moves.{move_on}
use Rattle.strm_drawing.proofs.running.push_arrows.Given as goal

abbrev pub invariant-loop-k : goal.invariant-loop-k
invariant-loop-k l =
    ((state : State) → l.before ≡ map (λ s. received s state) (range_with_len l.span.first l.span.count)
    → rows_kept l.rows ≡ rows_kept l.fn.rows ++ map rows.Arrow (flat_map (move_on l.holders state l.store) (range_with_len l.span.first l.k)))
    × IsFolding l.rows
