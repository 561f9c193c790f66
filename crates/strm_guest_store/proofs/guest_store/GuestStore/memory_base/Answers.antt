-- Whoever is told where a memory lies, the store stays one among guests.
use Rattle.std.proofs.Common.{sym, subst}
use Rattle.strm_guest_store.specs.Among.{IsAmongGuests}
use Rattle.strm_guest_store.proofs.AmongLemmas.{told_among}
use Rattle.strm_guest_store.proofs.guest_store.GuestStore.memory_base.Goals as goal

pub invariant_of-self : goal.invariant_of-self
invariant_of-self c =
    subst IsAmongGuests (sym c.memory_base.ensures.told) (told_among c.self.inside.store c.args.guest c.memory_base.result c.self.invariant)
