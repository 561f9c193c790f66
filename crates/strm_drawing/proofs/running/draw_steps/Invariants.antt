use Rattle.std.proofs.Common.{◌≡◌, ◌+◌, length}
use Rattle.strm_drawing.specs.Folding.{rows_kept, IsFolding}
use Rattle.strm_drawing.proofs.RunLemmas.{Sketching}
use Rattle.strm_drawing.proofs.running.draw_steps.Given as goal

abbrev pub invariant-loop : goal.invariant-loop
invariant-loop g l =
    let tells = g.H.HostEnds.tells in
    let left = g.L.GivesSteps.left in
    Sketching (tells l.fn.hosts) (tells l.hosts) (left l.fn.steps) (left l.steps) (rows_kept l.sketch.rows) l.sketch.holders l.store
    × IsFolding l.sketch.rows × (length (left l.steps) + l.counter ≡ length (left l.fn.steps))
