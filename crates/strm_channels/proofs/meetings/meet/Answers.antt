use Rattle.std.proofs.Common.{◌≤◌, min, arith}
use Rattle.std.proofs.lemmas.Grind.{common_steps}
use Rattle.strm_codes.specs.Layout.{item_type}
use Rattle.strm_machine.specs.Soundness.{sizes_of}
use Rattle.strm_machine.proofs.BoundLemmas.{address_room, not_out-front}
use Rattle.strm_channels.specs.Guests.{guests_of}
use Rattle.strm_channels.proofs.meetings.meet.Goals as goal

pub exchange-requires-clause-room : goal.exchange-requires-clause-room
exchange-requires-clause-room c =
    let n = min c.args.mine.left c.args.theirs.left in
    let less : n ≤ c.args.theirs.left = omega arith in
    let front = not_out-front _ (item_type c.args.stream.now.payload) c.args.theirs.address c.args.theirs.left n less c.requires.theirs.inside in
    address_room (sizes_of (guests_of c.args.guests.now.items)) c.args.theirs.guest (item_type c.args.stream.now.payload) c.args.theirs.address n c.requires.theirs.there front c.requires.sizes (omega arith)

pub returns-in-ReadCompletes : goal.returns-in-ReadCompletes
returns-in-ReadCompletes c = grind (arith, common_steps)
