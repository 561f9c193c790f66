use Rattle.std.proofs.Common.{[], subst}
use Rattle.strm_drawing.specs.Moves.{arrows_in}
use Rattle.strm_drawing.specs.Svg.{Shown}
use Rattle.strm_drawing.proofs.TextLemmas.{shown_none, shown_then}
use Rattle.strm_drawing.proofs.svg.push_block.Goals as goal

pub returns : goal.returns
returns c =
    let lanes = c.args.lanes.now.all.items in
    shown_then lanes [] (arrows_in c.args.block.now.rows.items) c.args.out.now c.push_slice.new.self c.push_rows.new.out
    (shown_none lanes c.args.out.now c.as_slice.result.now c.push_slice.new.self c.in_ok-push_slice.ensures.ok)
    (subst (λ xs. Shown lanes (arrows_in xs) c.push_slice.new.self c.push_rows.new.out) c.as_slice-2.ensures.value c.in_ok-push_rows.ensures)
