use Rattle.strm_drawing.proofs.FoldLemmas.{same_front}
use Rattle.strm_drawing.proofs.folding.same_next.Goals as goal

pub returns : goal.returns
returns c = λ t front.
    same_front c.args.rows.now c.args.others.now c.args.k _ _ c.requires.rows c.requires.others (c.same_row.ensures t) front
