use Rattle.strm_channels.proofs.GuestLemmas.{guests_of-with_linear}
use Rattle.strm_channels.proofs.guests.put_memory.Goals as goal

pub returns-clause-guests : goal.returns-clause-guests
returns-clause-guests c = guests_of-with_linear c.args.guests.now.items c.args.guest c.index_mut.result.now c.args.memory c.requires c.index_mut.ensures.value
