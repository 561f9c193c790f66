use Rattle.std.proofs.Common.{refl, sym, inr, ◌∙◌, arith}
use Rattle.strm_input_output.proofs.ServingLemmas.{is_or}
use Rattle.strm_tape_program.specs.Taking.{status_of_output, text_of}
use Rattle.strm_tape_program.proofs.TakeLemmas.{unfailed, written_known, told_done, told_bad_line, told_too_long}
use Rattle.strm_tape_program.proofs.WriteLemmas.{writes_answer}
use Rattle.strm_tape_program.proofs.taking.tape_take.Goals as goal

pub write_answer-requires : goal.write_answer-requires
write_answer-requires g c = rw c.status.ensures (unfailed c.in-Ok.ensures.told).0

pub returns-in-Ok-clause-known : goal.returns-in-Ok-clause-known
returns-in-Ok-clause-known g c = written_known c.in-Ok.ensures.told c.write_answer.result (rw c.status.ensures at c.write_answer.ensures.told)

pub returns-in-Ok-clause-writes : goal.returns-in-Ok-clause-writes
returns-in-Ok-clause-writes g c =
    let told = rw (c.status.ensures, c.text.ensures) at c.write_answer.ensures.told in
    let part = rw c.text.ensures at c.write_answer.ensures.part in
    writes_answer _ _ _ c.write_answer.result (status_of_output c.in-Ok.output) (text_of c.in-Ok.output) c.in-Ok.ensures.told told part c.write_answer.ensures.write_fault

pub returns-in-Ok-clause-nothing : goal.returns-in-Ok-clause-nothing
returns-in-Ok-clause-nothing g c = λ e.
    absurd ((unfailed c.in-Ok.ensures.told).1 (sym c.status.ensures ∙ sym (c.write_answer.ensures.told (λ five. omega (arith, e, five))).0 ∙ e))

pub returns-in-Ok-clause-complete : goal.returns-in-Ok-clause-complete
returns-in-Ok-clause-complete g c =
    let told = c.in-Ok.ensures.told in
    let left = g.S.Source.left c.args.source.now in
    let ended = c.write_answer.ensures in
    record {
      complete = λ input steps f s short.
          is_or c.write_answer.result c.status.result 0 ended.told ended.write_fault f.sink (c.status.ensures ∙ told_done left input told f.input_is f.source short steps s);
      bad_line = λ input line f bad short.
          is_or c.write_answer.result c.status.result 2 ended.told ended.write_fault f.sink (c.status.ensures ∙ told_bad_line left input told f.input_is f.source short line bad);
      too_long = λ input f long.
          is_or c.write_answer.result c.status.result 3 ended.told ended.write_fault f.sink (c.status.ensures ∙ told_too_long told input f.input_is f.source long);
    }

pub returns-in-Err-clause-complete : goal.returns-in-Err-clause-complete
returns-in-Err-clause-complete g c = record {
  complete = λ input steps f s short. inr refl;
  bad_line = λ input line f bad short. inr refl;
  too_long = λ input f long. inr refl;
}
