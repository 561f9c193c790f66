use Rattle.std.proofs.Common.{arith, refl}
use Rattle.strm_channels.specs.Guests.{guests_of}
use Rattle.strm_host_turns.proofs.WriterTurnLemmas.{empty, over, gone}
use Rattle.strm_ready_turns.proofs.writer_turns.ready_writer_turn.Goals as goal

pub returns-then-producer-clause-turns : goal.returns-then-producer-clause-turns
returns-then-producer-clause-turns c =
    empty _ _ _ _ c.args.read.now (omega (arith, c.held.ensures.exact, c.if-held-gt0.false))
    (over c.args.producer.now.over _ _ _ c.args.read.now c.if-producer.true refl
    (gone (guests_of c.args.guests.now.items) c.args.stream.now c.end_read.new.stream c.args.producer.now _ c.args.read.now c.end_read.ensures))
