use Rattle.std.proofs.Common.{refl}
use Rattle.strm_drawing.specs.Folding.{rows_kept, IsFolding}
use Rattle.strm_drawing.proofs.RunLemmas.{at_end, picture_is}
use Rattle.strm_drawing.proofs.running.draw_run.Goals as goal

pub blocks-requires : goal.blocks-requires
blocks-requires g c =
    let ran = c.draw_steps-ended in
    at_end (IsFolding ran.new.sketch.rows) ran.result c.in_ok-status.field-0 c.in_ok-status.ensures ran.ensures.folding ran.ensures.still

pub returns : goal.returns
returns g c =
    let ran = c.draw_steps-ended in
    picture_is _ _ _ c.in_ok-status.field-0 _ (rows_kept ran.new.sketch.rows) ran.result ran.ensures.drawn c.in_ok-status.ensures c.in_ok-blocks.ensures refl refl
