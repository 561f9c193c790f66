use Rattle.std.proofs.Common.{refl, sym, ◌∙◌, inr, arith}
use Rattle.strm_input_output.proofs.ServingLemmas.{too_long_of, usage_of, is_or}
use Rattle.strm_mux.proofs.MuxServingLemmas.{unfailed, written_known, told_done, told_bad_line}
use Rattle.strm_mux.proofs.serving.mux_serve.Goals as goal

pub write_answer-requires : goal.write_answer-requires
write_answer-requires g c = (unfailed c.in-Ok.ensures.told).0

pub returns-in-Ok-clause-known : goal.returns-in-Ok-clause-known
returns-in-Ok-clause-known g c = written_known c.in-Ok.ensures.told c.write_answer.result c.write_answer.ensures.told

pub returns-in-Ok-clause-told : goal.returns-in-Ok-clause-told
returns-in-Ok-clause-told g c = λ ended memory.
    let taken = (rw c.as_slice.ensures at c.write_answer.ensures.told) ended in
    (c.in-Ok.answer.text, rw taken.0 c.in-Ok.ensures.told, taken.1)

pub returns-in-Ok-clause-part : goal.returns-in-Ok-clause-part
returns-in-Ok-clause-part g c = λ failed.
    (c.in-Ok.answer.status, c.in-Ok.answer.text, c.in-Ok.ensures.told, rw c.as_slice.ensures at c.write_answer.ensures.part failed)

pub returns-in-Ok-clause-nothing : goal.returns-in-Ok-clause-nothing
returns-in-Ok-clause-nothing g c = λ e.
    absurd ((unfailed c.in-Ok.ensures.told).1 (sym (c.write_answer.ensures.told (λ five. omega (arith, e, five))).0 ∙ e))

pub returns-in-Ok-clause-complete : goal.returns-in-Ok-clause-complete
returns-in-Ok-clause-complete g c =
    let told = c.in-Ok.ensures.told in
    let ended = c.write_answer.ensures in
    record {
      complete = λ input given sizes f p short.
          is_or c.write_answer.result c.in-Ok.answer.status 0 ended.told ended.write_fault f.sink (told_done told input sizes f.input_is f.source short given p);
      bad_line = λ input line sizes f bad short.
          is_or c.write_answer.result c.in-Ok.answer.status 2 ended.told ended.write_fault f.sink (told_bad_line told input sizes f.input_is f.source short line bad);
      too_long = λ input sizes f long.
          is_or c.write_answer.result c.in-Ok.answer.status 3 ended.told ended.write_fault f.sink (too_long_of told.by_words input sizes f.input_is f.source long);
      usage = λ none calm. is_or c.write_answer.result c.in-Ok.answer.status 1 ended.told ended.write_fault calm (usage_of told.by_words none);
    }

pub returns-in-Err-clause-complete : goal.returns-in-Err-clause-complete
returns-in-Err-clause-complete g c = record {
  complete = λ input given sizes f p short. inr refl;
  bad_line = λ input line sizes f bad short. inr refl;
  too_long = λ input sizes f long. inr refl;
  usage = λ none calm. inr refl;
}
