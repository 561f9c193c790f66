-- A handle's store, lent. Ours.
use Rattle.std.specs.Prelude.{Some}
use Rattle.strm_machine.specs.State.{State}
use Rattle.strm_guest_store.specs.declared.limited_store.LimitedStore.{LimitedStore}
use Rattle.strm_c.specs.declared.handles.StoreHandle.{StoreHandle}

-- the handle with another store in the same place, whose guests have other limits
abbrev pub handle_with_limits : StoreHandle → LimitedStore → StoreHandle
handle_with_limits h limited =
    record { at = h.at; alloc = h.alloc; state = Some limited.store; limits = limited.limits }

-- the handle with another store in the same place, whose guests have the same limits
abbrev pub handle_with : StoreHandle → State → StoreHandle
handle_with h state = record { at = h.at; alloc = h.alloc; state = Some state; limits = h.limits }
