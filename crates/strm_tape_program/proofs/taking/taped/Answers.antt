use Rattle.std.proofs.Common.{Err, ap, subst, ◌∙◌}
use Rattle.std.proofs.lemmas.Result.{IfOk-weaker}
use Rattle.strm_tape.specs.Spelling.{TapeOf, IsTape}
use Rattle.strm_tape.specs.declared.errors.TapeError.TheVariants.{NotATape, Differs}
use Rattle.strm_tape_runs.specs.Playing.{IsPlayOf}
use Rattle.strm_tape_program.proofs.TakeLemmas.{none_first}
use Rattle.strm_tape_program.proofs.taking.taped.Goals as goal

pub unreachable-requires : goal.unreachable-requires
unreachable-requires g c =
    none_first _ _ c.requires.held ((c.tape_run.ensures.holding c.in-Err-Holding.field-0-0).0 (c.in-Err-Holding.is ∙ ap Err c.in-Err-Holding.field-0-is))

pub unreachable-requires-in-Err-NotATape : goal.unreachable-requires-in-Err-NotATape
unreachable-requires-in-Err-NotATape g c = c.tape_run.ensures.other NotATape (c.in-Err-NotATape.is ∙ ap Err c.in-Err-NotATape.field-0-is)

pub unreachable-requires-in-Err-Differs : goal.unreachable-requires-in-Err-Differs
unreachable-requires-in-Err-Differs g c =
    c.tape_run.ensures.other (Differs c.in-Err-Differs.field-0-0 c.in-Err-Differs.field-0-1 c.in-Err-Differs.field-0-2) (c.in-Err-Differs.is ∙ ap Err c.in-Err-Differs.field-0-is)

pub returns-in-Ok-clause-taped : goal.returns-in-Ok-clause-taped
returns-in-Ok-clause-taped g c =
    let taped = c.in-Ok.ensures.taped in
    IfOk-weaker c.tape_bytes.result _ _ (λ _ _. record {
      is_tape = subst IsTape taped.tape_is c.sound.ensures;
      end = c.in-Ok.taped.end;
      run = taped.ran;
      memory = taped.memory;
      plays = subst (λ (t : TapeOf). IsPlayOf t c.in-Ok.taped.end) taped.tape_is taped.plays;
    }) c.tape_bytes.ensures
