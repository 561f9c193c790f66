use Rattle.std.proofs.Common.{arith}
use Rattle.strm_channels.proofs.EndLemmas.{room_behind}
use Rattle.strm_channels.proofs.ends.insert_ends.Goals as goal

pub insert_end-read-requires-clause-room : goal.insert_end-read-requires-clause-room
insert_end-read-requires-clause-room c =
    omega (arith, c.handles_each-each.ensures.some, c.in_ok-reserve.ensures.room, c.in_ok-reserve-2.ensures.rooms c.args.reader)

pub insert_end-write-requires-clause-room : goal.insert_end-write-requires-clause-room
insert_end-write-requires-clause-room c =
    room_behind c.args.writer c.args.reader _ _ _ c.handles_each-each.ensures.both c.handles_each-each.ensures.some c.in_ok-reserve-2.ensures.room
    (c.insert_end-read.ensures.rooms c.args.writer) (c.insert_end-read.ensures.others c.args.writer)
