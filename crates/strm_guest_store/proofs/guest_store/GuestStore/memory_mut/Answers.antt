-- Whatever bytes are written, the store stays one among guests.
use Rattle.strm_guest_store.proofs.AmongLemmas.{lent_among}
use Rattle.strm_guest_store.proofs.guest_store.GuestStore.memory_mut.Goals as goal

pub invariant_of-self-lent : goal.invariant_of-self-lent
invariant_of-self-lent c = λ w. lent_among c.self.inside.store c.args.guest w c.self.invariant
