use Rattle.std.proofs.Common.{arith}
use Rattle.strm_channels.specs.Guests.{guests_of}
use Rattle.strm_host_turns.proofs.WriterTurnLemmas.{room_behind}
use Rattle.strm_host_turns.proofs.ReaderPollLemmas.{taken_few}
use Rattle.strm_ready_turns.proofs.reader_turns.poll_reader_once.Goals as goal

pub move_on-requires-clause-room : goal.move_on-requires-clause-room
move_on-requires-clause-room c =
    room_behind (guests_of c.args.guests.now.items) c.args.stream.now.payload c.args.write c.count_of-count.result c.requires.placed c.requires.sizes (omega arith)
    (omega (arith, c.count_of-count.ensures, taken_few _ _ (guests_of c.args.guests.now.items) c.args.stream.now.payload c.args.consumer.now.since c.args.write c.in-Ok.said (rw c.payload.ensures at c.in-Ok.ensures.ok)))
