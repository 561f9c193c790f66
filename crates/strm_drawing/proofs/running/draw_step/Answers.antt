use Rattle.std.proofs.Common.{Err, refl, ap, ◌∙◌}
use Rattle.strm_transmit.specs.Hosted.{call_answered}
use Rattle.strm_session.proofs.StepLemmas.{does_runs, never_trapped, does_answering}
use Rattle.strm_drawing.proofs.RunLemmas.{no_stop, out_of_memory_drawn}
use Rattle.strm_drawing.proofs.running.draw_step.Goals as goal

pub cause_of-requires-clause-trapped : goal.cause_of-requires-clause-trapped
cause_of-requires-clause-trapped g c = λ e.
    never_trapped c.args.store.now c.apply.new.store _ _ c.args.step.now c.requires.running (rw (c.in-Err.is, e) at c.apply.ensures.does)

pub returns-in-Ok-keep_step-clause-drawn : goal.returns-in-Ok-keep_step-clause-drawn
returns-in-Ok-keep_step-clause-drawn g c = record {
  reply = c.in-Ok-apply.reply;
  does = rw c.in-Ok-apply.is at c.apply.ensures.does;
  rows_are = c.in-Ok-keep_step.ensures.rows _ c.in-Ok.ensures.seen;
  holders_are = c.in-Ok-keep_step.ensures.holders _ c.in-Ok.ensures.seen;
}

pub returns-in-Ok-keep_step-clause-running : goal.returns-in-Ok-keep_step-clause-running
returns-in-Ok-keep_step-clause-running g c =
    does_runs c.args.store.now c.apply.new.store _ _ c.in-Ok-apply.reply c.args.step.now c.requires.running (rw c.in-Ok-apply.is at c.apply.ensures.does)

pub returns-in-Ok-apply-clause-stopped : goal.returns-in-Ok-apply-clause-stopped
returns-in-Ok-apply-clause-stopped g c = out_of_memory_drawn _ _ _ _ _ _ _

pub returns-in-Ok-apply-clause-still : goal.returns-in-Ok-apply-clause-still
returns-in-Ok-apply-clause-still g c = λ stop e. absurd (no_stop stop e)

pub returns-clause-stopped : goal.returns-clause-stopped
returns-clause-stopped g c =
    let does = rw c.in-Err.is at c.apply.ensures.does in
    record {
      does = λ stop e. does_answering (call_answered (Err c.in-Err.error)) _ (c.cause_of.ensures ∙ ap Err e) does;
      rows_are = λ stop e. refl;
    }

pub returns-in_default-clause-stopped : goal.returns-in_default-clause-stopped
returns-in_default-clause-stopped g c = out_of_memory_drawn _ _ _ _ _ _ _

pub returns-in_default-clause-still : goal.returns-in_default-clause-still
returns-in_default-clause-still g c = λ stop e. absurd (no_stop stop e)
