use Rattle.std.proofs.Common.{ap, sym, subst}
use Rattle.strm_drawing.specs.Moves.{arrow_in}
use Rattle.strm_drawing.specs.Svg.{Shown}
use Rattle.strm_drawing.proofs.TextLemmas.{shown_none}
use Rattle.strm_drawing.proofs.svg.push_row.Goals as goal

pub returns-in_ok-push_slice-in-Mark : goal.returns-in_ok-push_slice-in-Mark
returns-in_ok-push_slice-in-Mark c =
    let lanes = c.args.lanes.now.all.items in
    subst (λ xs. Shown lanes xs c.args.out.now c.push_slice.new.self) (sym (ap arrow_in c.in-Mark.is))
    (shown_none lanes c.args.out.now c.as_slice.result.now c.push_slice.new.self c.in_ok-push_slice-in-Mark.ensures.ok)
