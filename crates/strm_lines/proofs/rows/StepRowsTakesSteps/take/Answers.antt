use Rattle.std.proofs.Common.{◌∷◌, [], ◌++◌, ap, ◌∙◌}
use Rattle.strm_lines.proofs.RowLemmas.{placed_push, steps_push}
use Rattle.strm_lines.specs.Rows.{RowList}
use Rattle.strm_lines.proofs.rows.StepRowsTakesSteps.take.Goals as goal

pub invariant_of-self : goal.invariant_of-self
invariant_of-self c =
    placed_push _ _ _ c.keep_step-row.ensures.items _ _ _ c.self.invariant c.keep_item-place.ensures.items c.keep_step-row.ensures.placed

pub returns : goal.returns
returns c =
    steps_push _ _ _ c.keep_step-row.ensures.items _ _ _ _ c.self.invariant c.keep_item-place.ensures.items c.keep_step-row.ensures.whole
    ∙ ap (λ (l : RowList). l.items ++ c.args.step ∷ []) c.self.view_is
