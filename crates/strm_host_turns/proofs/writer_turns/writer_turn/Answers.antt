use Rattle.std.proofs.Common.{arith, refl}
use Rattle.strm_channels.specs.Guests.{guests_of}
use Rattle.strm_host_turns.proofs.WriterTurnLemmas.{holding, empty, over, gone}
use Rattle.strm_host_turns.proofs.writer_turns.writer_turn.Goals as goal

pub returns-then-held_by-gt0 : goal.returns-then-held_by-gt0
returns-then-held_by-gt0 g c =
    holding _ _ _ _ c.args.read.now (omega (arith, c.held_by.ensures.exact, c.if-held_by-gt0.true)) refl c.hand_over.ensures

pub returns-then-producer : goal.returns-then-producer
returns-then-producer g c =
    empty _ _ _ _ c.args.read.now (omega (arith, c.held_by.ensures.exact, c.if-held_by-gt0.false))
    (over c.args.producer.now.over _ _ _ c.args.read.now c.if-producer.true refl
    (gone (guests_of c.args.guests.now.items) c.args.stream.now c.end_read.new.stream c.args.producer.now _ c.args.read.now c.end_read.ensures))
