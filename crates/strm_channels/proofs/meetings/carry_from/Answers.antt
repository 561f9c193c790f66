use Rattle.std.proofs.Common.{◌≡◌, length, false}
use Rattle.strm_codes.specs.Layout.{item_type}
use Rattle.strm_memory.specs.Region.{is_out_of_bounds}
use Rattle.strm_machine.specs.State.{memory_in}
use Rattle.strm_machine.proofs.TurnLemmas.{front_inside}
use Rattle.strm_channels.specs.Guests.{guests_of}
use Rattle.strm_channels.proofs.CarryingLemmas.{of_write, of_read}
use Rattle.strm_channels.proofs.meetings.carry_from.Goals as goal

pub carry-requires-clause-source : goal.carry-requires-clause-source
carry-requires-clause-source c =
    rw c.write_of-write.ensures
    (of_write (λ o. is_out_of_bounds (length (memory_in (guests_of c.args.guests.now.items) o.guest)) (item_type c.args.payload) o.address c.args.count ≡ false)
    c.args.side c.args.mine.now c.args.theirs.now
    (front_inside (guests_of c.args.guests.now.items) c.args.payload c.args.mine.now c.args.count c.requires.mine_left c.requires.mine)
    (front_inside (guests_of c.args.guests.now.items) c.args.payload c.args.theirs.now c.args.count c.requires.theirs_left c.requires.theirs))

pub carry-requires-clause-target : goal.carry-requires-clause-target
carry-requires-clause-target c =
    rw c.read_of-read.ensures
    (of_read (λ o. is_out_of_bounds (length (memory_in (guests_of c.args.guests.now.items) o.guest)) (item_type c.args.payload) o.address c.args.count ≡ false)
    c.args.side c.args.mine.now c.args.theirs.now
    (front_inside (guests_of c.args.guests.now.items) c.args.payload c.args.mine.now c.args.count c.requires.mine_left c.requires.mine)
    (front_inside (guests_of c.args.guests.now.items) c.args.payload c.args.theirs.now c.args.count c.requires.theirs_left c.requires.theirs))
