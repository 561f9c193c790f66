use Rattle.std.proofs.Common.{subst, arith}
use Rattle.std.proofs.lemmas.List.{take_all}
use Rattle.strm_drawing.specs.Moves.{arrow_in, arrows_in}
use Rattle.strm_drawing.specs.Svg.{Shown}
use Rattle.strm_drawing.proofs.TextLemmas.{shown_same, shown_more}
use Rattle.strm_drawing.proofs.svg.push_rows.Goals as goal

pub loop-k-init : goal.loop-k-init
loop-k-init c = shown_same c.args.lanes.now.all.items c.args.out.now

pub loop-k-preserved : goal.loop-k-preserved
loop-k-preserved c =
    shown_more c.args.lanes.now.all.items arrow_in c.args.rows.now c.loop-k.k _ _ _ _ c.loop-k-test.true c.loop-k.invariant c.in_ok-push_row.ensures

pub returns : goal.returns
returns c =
    subst (λ xs. Shown c.args.lanes.now.all.items (arrows_in xs) c.args.out.now c.loop-k.out)
    (take_all c.loop-k.k c.args.rows.now (omega (arith, c.loop-k-test.false))) c.loop-k.invariant
