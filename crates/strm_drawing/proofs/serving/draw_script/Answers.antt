use Rattle.std.proofs.Common.{refl}
use Rattle.strm_session.proofs.ServingLemmas.{written_known, written_not_nine}
use Rattle.strm_drawing.proofs.ServeLemmas.{told_known, unfailed, writes_answer, writes_nothing}
use Rattle.strm_drawing.proofs.serving.draw_script.Goals as goal

pub write_answer-requires : goal.write_answer-requires
write_answer-requires g c = (unfailed (told_known c.in-Ok.ensures.told)).0

pub returns-in-Ok-clause-known : goal.returns-in-Ok-clause-known
returns-in-Ok-clause-known g c = written_known c.write_answer.result c.in-Ok.answer.status (told_known c.in-Ok.ensures.told) c.write_answer.ensures.told

pub returns-in-Ok-clause-writes : goal.returns-in-Ok-clause-writes
returns-in-Ok-clause-writes g c =
    writes_answer _ _ _ c.write_answer.result c.in-Ok.answer.status c.in-Ok.answer.text c.in-Ok.ensures.told (rw c.as_slice.ensures at c.write_answer.ensures.told) (rw c.as_slice.ensures at c.write_answer.ensures.part) c.write_answer.ensures.write_fault

pub returns-in-Err-clause-writes : goal.returns-in-Err-clause-writes
returns-in-Err-clause-writes g c = writes_nothing _ _ _ _ refl

pub returns-in-Ok-clause-nothing : goal.returns-in-Ok-clause-nothing
returns-in-Ok-clause-nothing g c = λ e.
    absurd (written_not_nine c.write_answer.result c.in-Ok.answer.status (told_known c.in-Ok.ensures.told) c.write_answer.ensures.told e)
