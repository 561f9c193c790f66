use Rattle.std.proofs.lemmas.Result.{IfOk-weaker}
use Rattle.strm_chain.proofs.ServingLemmas.{told_done}
use Rattle.strm_chain.proofs.serving.answer_plan.Goals as goal

pub returns-in-Ok-clause-told : goal.returns-in-Ok-clause-told
returns-in-Ok-clause-told g c = λ words a.
    IfOk-weaker c.answer_input.result _ _
    (λ out h. told_done c.args.plan.now.chunk c.args.plan.now.stages.items a (g.S.Source.left c.args.source.now) (g.S.Source.left c.read_within.new.source) c.in-Ok.input out.status out.bytes c.in-Ok.ensures.ok c.in-Ok.ensures.end c.in-Ok.ensures.within h.0 (rw c.as_slice.ensures at h.1))
    c.answer_input.ensures
