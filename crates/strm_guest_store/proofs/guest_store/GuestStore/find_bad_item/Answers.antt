-- Where the store finds none, there is none.
use Rattle.std.proofs.Common.{ℕ, subst}
use Rattle.strm_machine.specs.Asked.{HasBadItem}
use Rattle.strm_machine.specs.State.{State}
use Rattle.strm_transmit.specs.BadItems.{operation_step}
use Rattle.strm_guest_store.proofs.guest_store.GuestStore.find_bad_item.Goals as goal

pub returns-clause-none : goal.returns-clause-none
returns-clause-none c none =
    subst (λ (state : State). (s : ℕ) → HasBadItem state (operation_step c.args.side (record { guest = c.args.guest; ty = c.args.ty; handle = c.args.handle }) c.args.address c.args.count) s → ⊥) c.self.view_is
    (c.bad_item.ensures.none none)
