use Rattle.std.proofs.Common.{◌∙◌, refl, sym, arith}
use Rattle.strm_channels.specs.Guests.{guests_of}
use Rattle.strm_host_turns.proofs.WriterPollLemmas.{received_few}
use Rattle.strm_host_turns.proofs.WriterTurnLemmas.{handed_on, room_behind, judged_stops, judged_passes}
use Rattle.strm_host_turns.proofs.writer_turns.poll_writer_once.Goals as goal

pub returns-in_err-judge_writer : goal.returns-in_err-judge_writer
returns-in_err-judge_writer g c =
    rw (handed_on c.from_residual.result c.from_residual.ensures.1)
    (judged_stops (guests_of c.args.guests.now.items) (guests_of c.poll_into.new.guests.items) c.args.stream.now c.args.producer.now _ _ c.args.read
    c.in-Ok.polled.0 c.in-Ok.polled.1 c.held_by-held.result (rw (← c.payload.ensures) c.in-Ok.ensures.ok) c.held_by-held.ensures.exact c.in_err-judge_writer.field-0.0 (rw (← c.kind.ensures) (sym c.in_err-judge_writer.ensures)))

pub move_on-requires-clause-room : goal.move_on-requires-clause-room
move_on-requires-clause-room g c =
    room_behind (guests_of c.args.guests.now.items) c.args.stream.now.payload c.args.read c.count_of-count.result c.requires.placed c.requires.sizes (omega arith)
    (omega (arith, c.count_of-count.ensures, received_few _ _ _ _ _ c.args.read c.in-Ok.polled.0 c.in-Ok.polled.1 c.in-Ok.ensures.ok))

pub returns : goal.returns
returns g c =
    let settled = c.move_on.ensures ∙ rw (c.count_of-count.ensures, c.produced_result.ensures _ (sym c.held_by-held.ensures.exact)) refl in
    judged_passes (guests_of c.args.guests.now.items) (guests_of c.poll_into.new.guests.items) c.args.stream.now c.args.producer.now _ _ c.args.read
    c.in-Ok.polled.0 c.in-Ok.polled.1 c.held_by-held.result (rw (← c.payload.ensures) c.in-Ok.ensures.ok) c.held_by-held.ensures.exact c.move_on.new.stream c.note_answer.new.producer
    (rw (← c.kind.ensures) (sym c.in_ok-judge_writer.ensures)) settled c.note_answer.ensures
