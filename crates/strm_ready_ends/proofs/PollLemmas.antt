-- What a poll of a ready host reader leaves of its credit.
use Rattle.std.proofs.Common.{◌≡◌, ℕ, ◌+◌, ◌-◌, ◌*◌, ◌≤◌, List, length, arith}
use Rattle.strm_codes.specs.Layout.{item_type}
use Rattle.strm_codes.specs.ItemTypes.{item_size}
use Rattle.strm_buffers.proofs.ListingLemmas.{cut}
use Rattle.strm_ready_ends.specs.Waiting.{Waiting}
use Rattle.strm_ready_ends.specs.ReceiveQueues.{HasRoomFor}

-- what was put behind items of which so many took so many bytes
pub record PutBehind (old new : Waiting) (taken : ℕ) (bytes : List ℕ) : Type 0 where
  pub payload : new.payload ≡ old.payload
  pub size : length bytes ≡ item_size (item_type old.payload) * taken
  pub left : new.room + length bytes ≡ old.room
  pub count : length new.items ≡ length old.items + taken

-- what is left of its credit has room behind what it took
pub room_left : (old new : Waiting) (credit taken : ℕ) (bytes : List ℕ) → HasRoomFor old credit → taken ≤ credit → PutBehind old new taken bytes → HasRoomFor new (credit - taken)
room_left old new credit taken bytes h few p =
    let parts = cut (item_size (item_type old.payload)) taken credit few in
    record {
      room = rw p.payload (omega (arith, h.room, parts, p.size, p.left));
      few = omega (arith, h.few, few, p.count);
    }
