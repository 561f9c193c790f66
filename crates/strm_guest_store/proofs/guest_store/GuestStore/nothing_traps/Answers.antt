-- It is an invariant.
use Rattle.strm_guest_store.proofs.guest_store.GuestStore.nothing_traps.Goals as goal

pub returns : goal.returns
returns c = rw (← c.self.view_is) c.self.invariant.untrapped
