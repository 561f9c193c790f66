use Rattle.std.proofs.Common.{ℕ, Err, inl, sym, ap, subst, ◌∙◌}
use Rattle.strm_tape_program.specs.Playing.{IsStatusOfPlay}
use Rattle.strm_tape_program.proofs.PlayLemmas.{other_run, none_other, status_of_play, run_or_not}
use Rattle.strm_tape_program.proofs.WriteLemmas.{writes_answer}
use Rattle.strm_input_output.proofs.ServingLemmas.{written}
use Rattle.strm_tape_program.proofs.playing.tape_play.Goals as goal

pub returns-in-Ok-answer_of-clause-complete : goal.returns-in-Ok-answer_of-clause-complete
returns-in-Ok-answer_of-clause-complete g c = λ end same plays calm.
    let output = c.in-Ok-answer_of.answer in
    let played = c.in-Ok.ensures.plays in
    inl (subst (λ (status : ℕ). IsStatusOfPlay status end)
    (sym (written c.write_answer.result output.status c.write_answer.ensures.told c.write_answer.ensures.write_fault calm))
    (status_of_play c.args.tape.now _ _ output.status _ (c.in-Ok-answer_of.ensures.played c.args.tape.now _ _
    (record { run = played.ran; same = sym played.tape_is; plays = played.plays })) c.in-Ok-answer_of.ensures.known end plays))

pub returns-in-Ok-answer_of-clause-writes : goal.returns-in-Ok-answer_of-clause-writes
returns-in-Ok-answer_of-clause-writes g c =
    let output = c.in-Ok-answer_of.answer in
    let played = c.in-Ok.ensures.plays in
    let is = c.in-Ok-answer_of.ensures.played c.args.tape.now _ _ (record { run = played.ran; same = sym played.tape_is; plays = played.plays }) in
    writes_answer _ _ _ c.write_answer.result output.status output.text is (rw c.as_slice.ensures at c.write_answer.ensures.told) (rw c.as_slice.ensures at c.write_answer.ensures.part) c.write_answer.ensures.write_fault

pub returns-in-Err-Differs-clause-writes : goal.returns-in-Err-Differs-clause-writes
returns-in-Err-Differs-clause-writes g c =
    let is = c.in-Err-Differs.is ∙ ap Err c.in-Err-Differs.field-0-is in
    let reader = c.in-Err-Differs.field-0-0 in
    let end = c.in-Err-Differs.field-0-1 in
    let at = c.in-Err-Differs.field-0-2 in
    let text = c.differs_text.result.now in
    let ended = c.write_answer-in-Err-Differs.ensures in
    let other = other_run c.args.tape.now _ _ text
    (record { run = c.replay.ensures.adds reader end at is; reader = reader; end = end; at = at; differ = c.replay.ensures.differs reader end at is })
    c.differs_text.ensures in
    writes_answer _ _ _ c.write_answer-in-Err-Differs.result 10 text other ended.told ended.part ended.write_fault

pub returns-in-Err-Differs-clause-complete : goal.returns-in-Err-Differs-clause-complete
returns-in-Err-Differs-clause-complete g c = λ played same plays calm.
    let is = c.in-Err-Differs.is ∙ ap Err c.in-Err-Differs.field-0-is in
    let reader = c.in-Err-Differs.field-0-0 in
    let end = c.in-Err-Differs.field-0-1 in
    let at = c.in-Err-Differs.field-0-2 in
    absurd (none_other c.args.tape.now _ _ same
    (record { run = c.replay.ensures.adds reader end at is; reader = reader; end = end; at = at; differ = c.replay.ensures.differs reader end at is }))

pub returns-in-Err-clause-out_of_memory : goal.returns-in-Err-clause-out_of_memory
returns-in-Err-clause-out_of_memory g c = λ _.
    run_or_not c.replay.result _ _ _ c.in-Err.field-0 c.in-Err.is c.replay.ensures.other c.replay.ensures.out_of_memory c.replay.ensures.adds
