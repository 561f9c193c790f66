-- The states of a store among guests. Ours.
use Rattle.std.specs.Prelude.{◌≡◌, ℕ, ◌+◌, ◌*◌, ◌≤◌, ◌<◌, true, false, List, length, slice_index_or}
use Rattle.strm_handles.specs.Handles.{IsTable}
use Rattle.strm_machine.specs.Moments.{is_end}
use Rattle.strm_machine.specs.Sides.{end_of}
use Rattle.strm_machine.specs.State.{State, guest_in, memory_in, stream_at, no_stream}
use Rattle.strm_machine.specs.Tests.{end_named, is_cancel_under_way}
use Rattle.strm_machine.specs.declared.streams.Owner.TheVariants.{Held}
use Rattle.strm_machine.specs.declared.streams.Side.{Side}
use Rattle.strm_machine.specs.declared.streams.Stream.{Stream}
use Rattle.strm_host_machine.specs.Does.{Fits}
use Rattle.strm_places.specs.Lives.{HasOnlyMade}
use Rattle.strm_transmit.specs.Guests.{Unhosted, nobody, AreOfOwners}

-- handles and ends agree: an end that a handle names is its guest's, under that handle, and each end that a guest has
-- is named so; and each table is one
pub record HandlesAgree (state : State) : Type 0 where
  pub tables : (g : ℕ) → IsTable (guest_in state.guests g).handles
  pub named : (g handle s : ℕ) (side : Side) → is_end s side (end_named state g handle) ≡ true →
      (end_of side (stream_at state s)).owner ≡ Held g handle
  pub held : (g handle s : ℕ) (side : Side) → (end_of side (stream_at state s)).owner ≡ Held g handle →
      is_end s side (end_named state g handle) ≡ true

-- no operation is being cancelled: where no host end is across, a cancel ends it at once
abbrev pub AreUncancelled : List Stream → Type 0
AreUncancelled streams = (s : ℕ) (side : Side) → is_cancel_under_way side (slice_index_or streams s no_stream) ≡ false

-- sound, no host end has an end of a stream, and none has to be there; and there are no more streams than the
-- limit on places has room for at once, since the places of those that are gone are given again. Handles and ends
-- agree, each operation is of the guest that has its end, none is being cancelled, and nothing traps such a store. No
-- call makes a resource or a subtask, so tables hold only ends, waitable sets and error contexts
pub record IsAmongGuests (state : State) : Type 0 where
  pub unhosted : Unhosted state
  pub fits : Fits state nobody
  pub few : 3 * length state.streams ≤ state.limits.places
  pub held : HandlesAgree state
  pub owned : AreOfOwners state.streams
  pub uncancelled : AreUncancelled state.streams
  pub untrapped : state.trapped ≡ false
  pub made : (g : ℕ) → HasOnlyMade state g

-- a guest's memory has so many bytes from an address on
pub record HasBytes (state : State) (guest address count : ℕ) : Type 0 where
  pub there : guest < length state.guests
  pub inside : address + count ≤ length (memory_in state.guests guest)
