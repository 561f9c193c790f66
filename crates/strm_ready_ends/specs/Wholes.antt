-- Bytes that are so many items, with none left over. Canonical ABI, "Loading"; that bytes from outside are
-- tested whole before any item is taken is ours.
use Rattle.std.specs.Prelude.{◌≡◌, ℕ, ◌*◌, ◌==◌, Bool, ◌&&◌, List, length, is_some}
use Rattle.strm_codes.specs.Layout.{item_type}
use Rattle.strm_codes.specs.ItemTypes.{item_size}
use Rattle.strm_codes.specs.declared.payloads.Payload.{Payload}
use Rattle.strm_memory.specs.Items.{items}
use Rattle.strm_buffers.specs.Listing.{LieIn}

-- so many items are there and good, and nothing stands behind them
abbrev pub are_whole : Payload → List ℕ → ℕ → Bool
are_whole payload bytes count =
    (length bytes == item_size (item_type payload) * count) && is_some (items (item_type payload) bytes count)

-- the same, said of where they lie
pub record AreWhole (payload : Payload) (bytes : List ℕ) (count : ℕ) : Type 0 where
  pub all : length bytes ≡ item_size (item_type payload) * count
  pub lie : LieIn (item_type payload) bytes 0 count
