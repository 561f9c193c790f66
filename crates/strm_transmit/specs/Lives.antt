-- What stays of a store without host ends where a guest ends. Ours.
use Rattle.std.specs.Prelude.{◌≡◌, ℕ, true, length}
use Rattle.strm_handles.specs.Handles.{IsTable}
use Rattle.strm_machine.specs.Moments.{is_end}
use Rattle.strm_machine.specs.Sides.{end_of}
use Rattle.strm_machine.specs.State.{State, guest_in, stream_at}
use Rattle.strm_machine.specs.Soundness.{IsSound}
use Rattle.strm_machine.specs.Tests.{end_named}
use Rattle.strm_machine.specs.declared.streams.Owner.TheVariants.{Held}
use Rattle.strm_machine.specs.declared.streams.Side.{Side}
use Rattle.strm_transmit.specs.Guests.{AreUnhosted, AreOfOwners}

-- it is sound, no host end has an end, each operation is of the guest that has its end, and handles and ends agree:
-- each table is one, an end that a handle names is its guest's, under that handle, and each end that a guest has is
-- named so; there are as many guests and streams as before, under the same limits, and it is trapped if it was
pub record StaysAmong (old new : State) : Type 0 where
  pub sound : IsSound new
  pub unhosted : AreUnhosted new.streams
  pub owned : AreOfOwners new.streams
  pub tables : (g : ℕ) → IsTable (guest_in new.guests g).handles
  pub named : (g handle s : ℕ) (side : Side) → is_end s side (end_named new g handle) ≡ true →
      (end_of side (stream_at new s)).owner ≡ Held g handle
  pub held : (g handle s : ℕ) (side : Side) → (end_of side (stream_at new s)).owner ≡ Held g handle →
      is_end s side (end_named new g handle) ≡ true
  pub guests : length new.guests ≡ length old.guests
  pub many : length new.streams ≡ length old.streams
  pub limits : new.limits ≡ old.limits
  pub trapped : new.trapped ≡ old.trapped
