use Rattle.std.proofs.Common.{ap}
use Rattle.strm_waitable_sets.specs.Sets.{handle_left}
use Rattle.strm_machine.specs.State as machine
use Rattle.strm_channels.specs.Guests.{guest_of}
use Rattle.strm_channels.proofs.GuestLemmas.{guests_of-made}
use Rattle.strm_channels.proofs.sets.leave_set.Goals as goal

pub returns-clause-guests : goal.returns-clause-guests
returns-clause-guests c =
    let x = c.index_mut.result.now in
    guests_of-made c.args.guests.now.items c.args.guest x (record x { sets = c.leave.new.self }) (λ (k : machine.Guest). record k { sets = handle_left k.sets c.args.handle }) c.requires.there c.index_mut.ensures.value
    (ap (λ sets. guest_of (record x { sets = sets })) c.leave.ensures)
