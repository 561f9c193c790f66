use Rattle.std.proofs.lemmas.Result.{IfOk-weaker, IfErr-weaker}
use Rattle.strm_session.proofs.AmongLemmas.{goes_on_itself}
use Rattle.strm_session.proofs.ServingLemmas.{told_of_source, unwritten_of_source}
use Rattle.strm_session.proofs.serving.answer_source.Goals as goal

pub returns-in-Ok-clause-told : goal.returns-in-Ok-clause-told
returns-in-Ok-clause-told g c =
    let left = g.S.Source.left c.args.source.now in
    IfOk-weaker c.answer_input.result _ _
    (λ a h. told_of_source left c.in-Ok.input c.in-Ok.ensures.ok c.in-Ok.ensures.end (rw c.as_slice.ensures at h))
    (c.answer_input.ensures.told (g.S.Source.faults c.args.source.now) (g.S.Source.faults c.read_all.new.source))

pub returns-in-Err-TooLong-clause-goes_on : goal.returns-in-Err-TooLong-clause-goes_on
returns-in-Err-TooLong-clause-goes_on g c = goes_on_itself _

pub returns-in-Err-Fault-clause-goes_on : goal.returns-in-Err-Fault-clause-goes_on
returns-in-Err-Fault-clause-goes_on g c = goes_on_itself _

pub returns-in-Err-OutOfMemory-clause-goes_on : goal.returns-in-Err-OutOfMemory-clause-goes_on
returns-in-Err-OutOfMemory-clause-goes_on g c = goes_on_itself _

pub returns-in-Ok-clause-out_of_memory : goal.returns-in-Ok-clause-out_of_memory
returns-in-Ok-clause-out_of_memory g c =
    IfErr-weaker c.answer_input.result _ _
    (λ e h. unwritten_of_source (g.S.Source.left c.args.source.now) c.in-Ok.input c.in-Ok.ensures.ok (rw c.as_slice.ensures at h))
    c.answer_input.ensures.out_of_memory
