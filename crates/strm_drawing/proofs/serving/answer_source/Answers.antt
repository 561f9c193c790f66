use Rattle.std.proofs.lemmas.Result.{IfOk-weaker}
use Rattle.strm_drawing.proofs.ServeLemmas.{told_of_source}
use Rattle.strm_drawing.proofs.serving.answer_source.Goals as goal

pub returns-in-Ok-clause-told : goal.returns-in-Ok-clause-told
returns-in-Ok-clause-told g c =
    let left = g.S.Source.left c.args.source.now in
    IfOk-weaker c.answer_lines.result _ _
    (λ a h. told_of_source left c.in-Ok.input c.in-Ok.ensures.ok c.in-Ok.ensures.end (rw c.as_slice.ensures at h))
    (c.answer_lines.ensures (g.S.Source.faults c.args.source.now) (g.S.Source.faults c.read_all.new.source))
