use Rattle.std.proofs.Common.{arith}
use Rattle.strm_chain.proofs.RoomLemmas.{made_room}
use Rattle.strm_chain.proofs.making.add_guests.Goals as goal

pub add_guest-requires-clause-made : goal.add_guest-requires-clause-made
add_guest-requires-clause-made c = (c.loop-made._made, omega (arith, c.requires.few, c.loop-made-test.true), c.loop-made.invariant)

pub add_guest-requires-clause-room : goal.add_guest-requires-clause-room
add_guest-requires-clause-room c =
    made_room c.loop-made._made 0 1 c.loop-made.player c.loop-made.invariant (omega (arith, c.requires.few, c.loop-made-test.true))
