use Rattle.std.proofs.Common.{sym, subst}
use Rattle.strm_machine.specs.State.{State}
use Rattle.strm_host_machine.specs.Does.{Fits}
use Rattle.strm_transmit.specs.Guests.{nobody}
use Rattle.strm_guest_store.specs.Among.{IsAmongGuests}
use Rattle.strm_guest_store.proofs.AmongLemmas.{empty_among}
use Rattle.strm_guest_store.proofs.guest_store.GuestStore.new.Goals as goal

pub invariant_of-result : goal.invariant_of-result
invariant_of-result c =
    subst IsAmongGuests (sym c.new.ensures.exact)
    (empty_among c.args.tag c.args.limits
    (subst (λ (state : State). Fits state nobody) c.new.ensures.exact (c.new.ensures.fits nobody)))
