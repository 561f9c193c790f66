use Rattle.strm_channels.proofs.GuestLemmas.{guests_of-made}
use Rattle.strm_places.specs.Lives.{left_over}
use Rattle.strm_transmit.proofs.store.lives.clear_guest.Goals as goal

pub returns-clause-guests : goal.returns-clause-guests
returns-clause-guests c =
    guests_of-made c.args.guests.now.items c.args.guest c.index_mut.result.now c.clear.new.holder left_over c.requires c.index_mut.ensures.value c.clear.ensures
