use Rattle.std.proofs.Common.{ap, ◌∙◌}
use Rattle.strm_drawing.specs.Folding.{rows_kept}
use Rattle.strm_drawing.specs.Holders.{holders_after}
use Rattle.strm_drawing.proofs.MoveLemmas.{rows_kept_of_step}
use Rattle.strm_drawing.proofs.running.keep_step.Goals as goal

pub returns-clause-rows : goal.returns-clause-rows
returns-clause-rows c = λ state was.
    let seen = c.args.seen.now in
    let sketch = c.args.sketch.now in
    rows_kept_of_step sketch.holders state c.args.store.now c.args.step.now c.args.reply.now seen c.mark_of.result (rows_kept sketch.rows) (rows_kept c.push.new.self) (rows_kept c.push_arrows.new.rows)
    was c.mark_of.ensures c.in_ok-push.ensures.rows (c.in_ok-push_arrows.ensures.arrows state was.before)

pub returns-clause-holders : goal.returns-clause-holders
returns-clause-holders c = λ state was.
    c.in_ok-go_on.ensures.ok ∙ ap (λ n. holders_after c.args.sketch.now.holders n c.args.step.now c.args.reply.now) was.named
