use Rattle.strm_drawing.specs.Folding.{rows_kept}
use Rattle.strm_drawing.specs.Moves.{move_on}
use Rattle.strm_drawing.proofs.MoveLemmas.{arrows_more}
use Rattle.strm_drawing.proofs.running.push_arrows.Goals as goal

pub loop-k-preserved : goal.loop-k-preserved
loop-k-preserved c =
    let i = c.loop-k.invariant in
    let now = c.in_ok-push_arrow.ensures in (
      (λ state e.
          arrows_more (move_on c.args.holders.now state c.args.store.now) c.args.span.first c.loop-k.k (rows_kept c.args.rows.now) (rows_kept c.loop-k.rows) (rows_kept c.push_arrow.new.rows)
          (i.0 state e) (now.arrow state (c.count_before.ensures state _ _ e))),
      now.folding,
    )
