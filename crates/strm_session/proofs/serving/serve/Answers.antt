use Rattle.std.proofs.Common.{refl, arith}
use Rattle.strm_session.proofs.ServingLemmas.{known_unfailed, written_known, written_not_nine, complete_written}
use Rattle.strm_session.proofs.serving.serve.Goals as goal

pub write_answer-requires : goal.write_answer-requires
write_answer-requires g c = (known_unfailed c.in-Ok.answer.status c.in-Ok.ensures.known).0

pub returns-in-Ok-clause-known : goal.returns-in-Ok-clause-known
returns-in-Ok-clause-known g c = written_known c.write_answer.result c.in-Ok.answer.status c.in-Ok.ensures.known c.write_answer.ensures.told

pub returns-in-Ok-clause-writes : goal.returns-in-Ok-clause-writes
returns-in-Ok-clause-writes g c = record {
  told = λ ended memory.
      let taken = (rw c.as_slice.ensures at c.write_answer.ensures.told) ended in
      (c.in-Ok.answer.text, rw taken.0 c.in-Ok.ensures.told, taken.1);
  part = λ failed. (
    c.in-Ok.answer.status,
    c.in-Ok.answer.text,
    c.in-Ok.ensures.told,
    rw c.as_slice.ensures at c.write_answer.ensures.part failed,
  );
  write_fault = c.write_answer.ensures.write_fault;
}

pub returns-in-Err-clause-writes : goal.returns-in-Err-clause-writes
returns-in-Err-clause-writes g c = record {
  told = λ ended memory. absurd (memory refl);
  part = λ e. absurd (omega (arith, e));
  write_fault = λ e. absurd (omega (arith, e));
}

pub returns-in-Ok-clause-nothing : goal.returns-in-Ok-clause-nothing
returns-in-Ok-clause-nothing g c = λ e.
    absurd (written_not_nine c.write_answer.result c.in-Ok.answer.status c.in-Ok.ensures.known c.write_answer.ensures.told e)

pub returns-in-Ok-clause-out_of_memory : goal.returns-in-Ok-clause-out_of_memory
returns-in-Ok-clause-out_of_memory g c = λ e.
    absurd (written_not_nine c.write_answer.result c.in-Ok.answer.status c.in-Ok.ensures.known c.write_answer.ensures.told e)

pub returns-in-Ok-clause-complete : goal.returns-in-Ok-clause-complete
returns-in-Ok-clause-complete g c =
    complete_written _ (g.S.Source.left c.args.source.now) (g.S.Source.left c.answer_words.new.source) _ _ _ _ _ _ c.write_answer.result c.in-Ok.answer.status c.in-Ok.answer.text c.in-Ok.ensures.told c.write_answer.ensures.told c.write_answer.ensures.write_fault
