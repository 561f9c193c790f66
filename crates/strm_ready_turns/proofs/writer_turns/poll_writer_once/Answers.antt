use Rattle.std.proofs.Common.{[], refl, sym, ◌∙◌}
use Rattle.strm_ready_turns.proofs.WriterLemmas.{empty_runs_out, empty_stops, empty_passes}
use Rattle.strm_ready_turns.proofs.writer_turns.poll_writer_once.Goals as goal
use Rattle.strm_host_turns.proofs.WriterTurnLemmas.{handed_on}

pub returns-in-Err-clause-polls : goal.returns-in-Err-clause-polls
returns-in-Err-clause-polls c guests =
    empty_runs_out guests c.args.stream.now c.args.producer.now c.args.writer.now c.poll_empty.new.self c.args.read c.in-Err.ensures.err

pub returns-in_err-judge_writer-clause-polls : goal.returns-in_err-judge_writer-clause-polls
returns-in_err-judge_writer-clause-polls c guests =
    rw (handed_on c.from_residual.result c.from_residual.ensures.1)
    (empty_stops c.args.writer.now guests c.args.stream.now c.args.producer.now c.args.read c.requires.nothing_held c.poll_empty.new.self c.in-Ok.answer c.in_err-judge_writer.field-0.0
    (record { polled_is = rw c.as_u32.ensures.exact at c.in-Ok.ensures.polled; answer_is = c.in-Ok.ensures.answer }) (rw (← c.kind.ensures) (sym c.in_err-judge_writer.ensures)))

pub returns-clause-polls : goal.returns-clause-polls
returns-clause-polls c guests =
    empty_passes c.args.writer.now guests c.args.stream.now c.args.producer.now c.args.read c.requires.nothing_held c.poll_empty.new.self c.in-Ok.answer c.move_on.new.stream c.note_answer.new.producer
    (record { polled_is = rw c.as_u32.ensures.exact at c.in-Ok.ensures.polled; answer_is = c.in-Ok.ensures.answer }) (rw (← c.kind.ensures) (sym c.in_ok-judge_writer.ensures))
    (c.move_on.ensures ∙ rw (c.produced_result-outcome.ensures [] refl) refl) c.note_answer.ensures
