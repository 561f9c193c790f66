-- A handle owns plain data and a block that any thread may free, so it may go to another thread.
use Rattle.std.specs.Prelude.{List, Option, Some, None}
use base.Shift.{Keyless}
use denote.RawPtr.{Ptr}
use denote.Param.Send.{IsSend, owning_send, sendable}
use Rattle.std_alloc.proofs.SendSync.{lies}
use Rattle.std_heap.specs.declared.Global.{Global}
use Rattle.strm_machine.specs.State.{State}
use Rattle.strm_guest_store.specs.contracts.limited_store.LimitedStore as Stored
use Rattle.strm_guest_store.specs.declared.guest_limits.GuestLimits.{GuestLimits}
use Rattle.strm_guest_store.proofs.limited_store.LimitedStore.TheSendSync as stored
use Rattle.std_heap.proofs.Global.TheSendSync as heap
use Rattle.std.proofs.Crossing.{frees}
use mir.Raw.{raw}
use denote.Memory.{lone}
use Rattle.strm_c.specs.Owned.{owned}
use Rattle.strm_c.specs.contracts.handles.StoreHandle.{the_row, the_type}

owned_keyless : (a : Global) (p : Ptr) (s : Option State) (l : List GuestLimits) → Keyless (owned a p s l)
owned_keyless a p None l = λ e. tt
owned_keyless a p (Some x) l = (lies Stored.the_row stored.the_send p (record { store = x; limits = l }), frees.frees a (raw (lone (Stored.the_row).mir)) p)

pub send : IsSend the_row
send = owning_send the_type (search sendable, (heap.the_field_send, tt)) (λ d. owned_keyless d.alloc d.at d.state d.limits) (λ k x w. tt)
