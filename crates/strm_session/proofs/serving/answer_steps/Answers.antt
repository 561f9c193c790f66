use Rattle.std.proofs.Common.{ap, ◌∙◌, refl}
use Rattle.strm_codes.proofs.ResultLemmas.{on_err}
use Rattle.strm_lines.specs.Text.{transcript_text}
use Rattle.strm_session.proofs.PlayingLemmas.{has_run}
use Rattle.strm_session.proofs.ServingLemmas.{was_run}
use Rattle.strm_session.proofs.serving.answer_steps.Goals as goal

pub returns-in_ok-text-in-Err-clause-stopped : goal.returns-in_ok-text-in-Err-clause-stopped
returns-in_ok-text-in-Err-clause-stopped g c = λ input s q.
    let played = c.in-Err.ensures in
    let run = has_run c.left-given.ensures refl played.2 in
    record {
      steps = c.args.steps.now.items;
      spelled = s;
      replies = played.0;
      cause = c.in-Err.cause;
      why = c.in_ok-status-in-Err.why;
      status_is = c.in_ok-status-in-Err.ensures.cause;
      run = run.stop;
      text_is = c.in_ok-text-in-Err.ensures played.0 played.1;
    }

pub returns-in_ok-text-in-Ok-clause-done : goal.returns-in_ok-text-in-Ok-clause-done
returns-in_ok-text-in-Ok-clause-done g c = λ input s q.
    let played = c.in-Ok.ensures in
    let run = has_run c.left-given.ensures refl played.2 in
    record {
      steps = c.args.steps.now.items;
      spelled = s;
      replies = played.0;
      state = c.in-Ok.ended.store;
      run = run.ok;
      text_is = c.in_ok-text-in-Ok.ensures played.0 played.1 ∙ ap (transcript_text played.0) (c.as_slice.ensures ∙ run.received);
    }

pub returns-in_err-text-in-Ok-clause-out_of_memory : goal.returns-in_err-text-in-Ok-clause-out_of_memory
returns-in_err-text-in-Ok-clause-out_of_memory g c = λ input s long.
    let played = c.in-Ok.ensures in
    on_err _ (was_run input c.args.steps.now.items played.0 _ s long (has_run c.left-given.ensures refl played.2))

pub returns-in_err-status-in-Err-clause-out_of_memory : goal.returns-in_err-status-in-Err-clause-out_of_memory
returns-in_err-status-in-Err-clause-out_of_memory g c = λ input s long.
    let played = c.in-Err.ensures in
    on_err _ (was_run input c.args.steps.now.items played.0 _ s long (has_run c.left-given.ensures refl played.2))

pub returns-in_err-text-in-Err-clause-out_of_memory : goal.returns-in_err-text-in-Err-clause-out_of_memory
returns-in_err-text-in-Err-clause-out_of_memory g c = λ input s long.
    let played = c.in-Err.ensures in
    on_err _ (was_run input c.args.steps.now.items played.0 _ s long (has_run c.left-given.ensures refl played.2))
