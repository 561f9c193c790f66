-- What is played of what a source has left, or why that is no tape.
use Rattle.std.proofs.Common.{inr, ap}
use Rattle.std.proofs.lemmas.Result.{IfOk-weaker}
use Rattle.strm_input_output.specs.Serving.{port}
use Rattle.tape.proofs.OutcomeLemmas.{no_error, of_error, tape_read, error_read, plays_read, plays_same}
use Rattle.tape.proofs.played_from.Goals as goal

pub returns-in-Ok-clause-plays : goal.returns-in-Ok-clause-plays
returns-in-Ok-clause-plays g c =
    IfOk-weaker c.played_among_ends.result _ _
    (λ code plays. plays_read c.args.shown _ _ _ _ _ _ _ (ap (λ k. port (g.K.Sink.taken k) (g.K.Sink.faults k)) c.in-Ok.ensures.quiet)
    (record { is_tape = c.sound.ensures; spelled = c.in-Ok.ensures.tape; whole = c.in-Ok.ensures.whole })
    c.tape_read.ensures.read (λ t is has few. tape_read c.tape_read.result t _ c.in-Ok.is (c.tape_read.ensures.complete.complete t is has few))
    (λ bytes has many calm. no_error c.tape_read.result _ 3 9 c.in-Ok.is (c.tape_read.ensures.complete.too_long bytes has many calm))
    plays)
    c.played_among_ends.ensures.plays

pub returns-in-Err-clause-plays : goal.returns-in-Err-clause-plays
returns-in-Err-clause-plays g c =
    let none = c.in-Err.ensures in
    let read = c.tape_read in
    let sure = read.ensures.complete in
    plays_same c.args.shown _ _ _ _ c.in-Err.why _ c.from.ensures (record {
      played = inr (record { known = none.known; writes = none.writes });
      read = read.ensures.read;
      complete = λ t is few has. inr (error_read read.result t c.in-Err.why c.in-Err.is (sure.complete t is has few));
      too_long = λ bytes many has room calm.
          of_error read.result c.in-Err.why 3 9 c.in-Err.is (sure.too_long bytes has many calm);
      not_a_tape = λ bytes few other has calm.
          of_error read.result c.in-Err.why 11 9 c.in-Err.is (sure.not_a_tape bytes has few other calm);
    })
