use Rattle.std.proofs.Common.{arith}
use Rattle.strm_channels.proofs.EndLemmas.{rooms_after, room_after, guests_of-same}
use Rattle.strm_channels.proofs.ends.reserve.Goals as goal

pub returns-in-Ok-clause-seen : goal.returns-in-Ok-clause-seen
returns-in-Ok-clause-seen c =
    guests_of-same c.args.guests.now.items c.args.guest c.index_mut.result.now c.reserve.new.self c.requires c.index_mut.ensures.value c.in-Ok.ensures.handles

pub returns-in-Ok-clause-room : goal.returns-in-Ok-clause-room
returns-in-Ok-clause-room c =
    omega (arith, room_after c.args.guests.now.items c.args.guest (record c.index_mut.result.now { table = c.reserve.new.self }) c.requires, c.in-Ok.ensures.ok)

pub returns-in-Ok-clause-rooms : goal.returns-in-Ok-clause-rooms
returns-in-Ok-clause-rooms c = λ n.
    omega (arith, rooms_after c.args.guests.now.items c.args.guest c.index_mut.result.now (record c.index_mut.result.now { table = c.reserve.new.self }) 0 n c.requires c.index_mut.ensures.value (omega (arith, c.in-Ok.ensures.room)))
