use Rattle.std.proofs.Common.{Err, sym, ap, ◌∙◌}
use Rattle.strm_machine.specs.Reactions.{Reaction}
use Rattle.strm_transmit.specs.Hosted.{call_answered}
use Rattle.strm_session.specs.Runs.{stop_of, Unkept}
use Rattle.strm_session.proofs.PlayLemmas.{play-goes, goes_on_to}
use Rattle.strm_session.proofs.StepLemmas.{does_runs, never_trapped, does_out_of_memory, does_answering, meets_stops, answered_unmet, meeting_takes_none, wanted_error, leaves_out_of_memory}
use Rattle.strm_session.proofs.playing.step_once.Goals as goal

pub cause_of-requires-clause-trapped : goal.cause_of-requires-clause-trapped
cause_of-requires-clause-trapped g c = λ e.
    never_trapped c.args.store.now c.apply.new.store _ _ c.args.step.now c.requires.running (rw (c.in-Err.is, e) at c.apply.ensures.does)

pub returns-in-Ok-keep-clause-does : goal.returns-in-Ok-keep-clause-does
returns-in-Ok-keep-clause-does g c =
    let does = rw c.in-Ok.is at c.apply.ensures.does in
    record {
      ok = does;
      stop = tt;
      out_of_memory = tt;
      unmet = tt;
      fits = c.apply.ensures.fits;
      goes_on = does_runs c.args.store.now c.apply.new.store _ _ c.in-Ok.reply c.args.step.now c.requires.running does;
    }

pub returns-in-Ok-keep-clause-alone : goal.returns-in-Ok-keep-clause-alone
returns-in-Ok-keep-clause-alone g c = λ untouched.
    let alone = c.apply.ensures.alone untouched in
    let meets = rw c.in-Ok.is at alone.meets in
    let settled = rw c.in-Ok.is at c.apply.ensures.settled in
    record {
      plays = λ told more. play-goes told c.args.store.now c.apply.new.store c.args.step.now more c.in-Ok.reply settled meets;
      state = sym (ap (λ (r : Reaction). r.state) meets);
      stop = λ told. tt;
      hosts = alone.ends;
    }

pub returns-in-Err-keep-clause-does : goal.returns-in-Err-keep-clause-does
returns-in-Err-keep-clause-does g c =
    let does = rw c.in-Ok.is at c.apply.ensures.does in
    record {
      ok = tt;
      stop = does_out_of_memory c.args.store.now c.apply.new.store _ _ c.in-Ok.reply _ does;
      out_of_memory = Unkept c.in-Ok.reply does;
      unmet = λ _ s. answered_unmet c.args.store.now c.apply.new.store _ _ c.in-Ok.reply c.args.step.now s c.requires.running does;
      fits = c.apply.ensures.fits;
      goes_on = tt;
    }

pub returns-in-Err-keep-clause-alone : goal.returns-in-Err-keep-clause-alone
returns-in-Err-keep-clause-alone g c = λ untouched.
    let alone = c.apply.ensures.alone untouched in
    record {
      plays = λ told more. tt;
      state = tt;
      stop = λ told. goes_on_to told c.args.store.now c.apply.new.store c.args.step.now c.in-Ok.reply (rw c.in-Ok.is at c.apply.ensures.settled) (rw c.in-Ok.is at alone.meets);
      hosts = alone.ends;
    }

pub returns-in-Err-clause-does : goal.returns-in-Err-clause-does
returns-in-Err-clause-does g c =
    let does = rw c.in-Err.is at c.apply.ensures.does in
    record {
      ok = tt;
      stop = does_answering (call_answered (Err c.in-Err.error)) (Err (stop_of c.cause_of.result)) c.cause_of.ensures does;
      out_of_memory = leaves_out_of_memory c.args.store.now c.apply.new.store _ _ c.args.step.now c.in-Err.error c.cause_of.result c.cause_of.ensures (rw c.in-Err.is at c.apply.ensures.err);
      unmet = λ wanted s met.
          let none = meeting_takes_none c.args.store.now c.args.step.now s met in
          let error = wanted_error c.in-Err.error c.cause_of.result c.cause_of.ensures wanted in
          c.apply.ensures.takes_no_memory none.0 none.1 (c.in-Err.is ∙ ap Err error);
      fits = c.apply.ensures.fits;
      goes_on = tt;
    }

pub returns-in-Err-clause-alone : goal.returns-in-Err-clause-alone
returns-in-Err-clause-alone g c = λ untouched.
    let alone = c.apply.ensures.alone untouched in
    record {
      plays = λ told more. tt;
      state = tt;
      stop = λ told. meets_stops told c.args.store.now c.apply.new.store c.args.step.now c.in-Err.error c.cause_of.result c.cause_of.ensures (rw c.in-Err.is at alone.meets);
      hosts = alone.ends;
    }
