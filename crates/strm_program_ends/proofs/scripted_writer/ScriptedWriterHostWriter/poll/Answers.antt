use Rattle.std.proofs.Common.{◌≡◌, ◌++◌}
use Rattle.strm_buffers.specs.Windows.{room_of}
use Rattle.strm_buffers.specs.Tells.{PollsWriter, writer_record}
use Rattle.strm_buffers.specs.declared.answers.Answer.{Answer}
use Rattle.strm_buffers.proofs.EndLemmas.{IfAnswered-turn_of}
use Rattle.strm_program_ends.specs.Scripts.{scripted_tells, next_items, DoesNextTurn}
use Rattle.strm_program_ends.proofs.ScriptLemmas.{Turns, turns_poll, room_parts}
use Rattle.strm_program_ends.proofs.scripted_writer.ScriptedWriterHostWriter.poll.Goals as goal

pub returns-in-Ok-clause-polls : goal.returns-in-Ok-clause-polls
returns-in-Ok-clause-polls c =
    let new = c.play.new.self in
    let items = next_items c.args.self.now.turns.items in
    let plays = c.in-Ok.ensures.plays in
    let same = c.in-Ok.ensures.same_type in
    let t : Turns c.args.self.now new c.args.window.now c.play.new.window c.args.finish items c.in-Ok.answer = record {
      said = rw plays.answers plays.said;
      marked = plays.marked;
      held = plays.held;
      fit = plays.fit;
      kind = same.kind;
      payload = same.payload;
      closed = same.closed;
    } in
    rw c.turn.ensures (IfAnswered-turn_of c.in-Ok.answer (λ (a : Answer). PollsWriter (scripted_tells c.args.self.now) (scripted_tells new) (writer_record c.args.window.now c.args.finish c.play.new.window.marked new.held.items a) c.play.new.window.marked)
    (turns_poll c.args.self.now new c.args.window.now c.play.new.window c.args.finish items c.in-Ok.answer t))

pub returns-in-Ok-clause-does_turn : goal.returns-in-Ok-clause-does_turn
returns-in-Ok-clause-does_turn c =
    let window = c.play.new.window in
    let new = c.play.new.self in
    let plays = c.in-Ok.ensures.plays in
    let all : window.marked ++ new.held.items ≡ next_items c.args.self.now.turns.items = rw (plays.marked, plays.held) (room_parts (room_of c.args.window.now.place) (next_items c.args.self.now.turns.items)) in
    rw c.turn.ensures (IfAnswered-turn_of c.in-Ok.answer (DoesNextTurn c.args.self.now new window)
    (record { answers = plays.answers; items = all; turns = plays.turns }))
