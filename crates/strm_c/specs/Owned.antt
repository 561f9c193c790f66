-- What a handle owns. Ours.
use Rattle.std.specs.Prelude.{◌≡◌, List, Option, Some, None}
use base.Fml.{Fml, ftrue, fex}
use denote.RawPtr.{Ptr, null_ptr}
use Rattle.std.specs.Box.Ownership.{box_owns}
use Rattle.std_heap.specs.declared.Global.{Global}
use Rattle.std_heap.specs.contracts.GlobalAllocator.TheImpl.{ghosts}
use Rattle.strm_machine.specs.State.{State}
use Rattle.strm_guest_store.specs.contracts.limited_store.LimitedStore.{the_row}
use Rattle.strm_guest_store.specs.declared.guest_limits.GuestLimits.{GuestLimits}

-- the box that the store lies in, with the limits of its guests; where there is none, the pointer is null
abbrev pub owned : Global → Ptr → Option State → List GuestLimits → Fml
owned alloc at None limits = fex (at ≡ null_ptr) (λ _. ftrue)
owned alloc at (Some state) limits =
    box_owns (ghosts.dealloc_token alloc) the_row at (record { store = state; limits = limits })
