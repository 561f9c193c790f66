use Rattle.strm_buffers.specs.Tells.{PollsWriter, writer_record}
use Rattle.strm_buffers.specs.declared.answers.Answer.{Answer}
use Rattle.strm_buffers.proofs.EndLemmas.{IfAnswered-turn_of}
use Rattle.std.proofs.Common.{[]}
use Rattle.strm_program_ends.specs.QueueTells.{queue_tells}
use Rattle.strm_program_ends.proofs.QueueLemmas.{Polled, gives_polls}
use Rattle.strm_program_ends.proofs.queue_writer.QueueWriterHostWriter.poll.Goals as goal

pub returns-in-Ok-clause-polls : goal.returns-in-Ok-clause-polls
returns-in-Ok-clause-polls c =
    let new = c.give_next.new.self in
    let after = c.give_next.new.window in
    let g : Polled c.args.self.now new c.args.window.now after c.args.finish c.in-Ok.answer = record {
      gives = c.in-Ok.ensures.gives;
      said = c.in-Ok.ensures.said;
      fit = c.in-Ok.ensures.fit;
      same = c.in-Ok.ensures.same_fed;
    } in
    rw c.turn.ensures (IfAnswered-turn_of c.in-Ok.answer (λ (a : Answer). PollsWriter (queue_tells c.args.self.now) (queue_tells new) (writer_record c.args.window.now c.args.finish after.marked [] a) after.marked)
    (gives_polls c.args.self.now new c.args.window.now after c.args.finish c.in-Ok.answer g))
