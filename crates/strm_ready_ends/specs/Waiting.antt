-- Items that wait in order. Ours.
use Rattle.std.specs.Prelude.{ℕ, List}
use Rattle.strm_codes.specs.Layout.{item_type}
use Rattle.strm_codes.specs.declared.payloads.Payload.{Payload}
use Rattle.strm_buffers.specs.Listing.{Item, items_in}

-- items of one payload, and how many bytes more are put behind theirs without an allocation
pub record Waiting : Type 0 where
  pub payload : Payload
  pub items : List Item
  pub room : ℕ

-- how they are kept: the bytes of so many items, from their front on
abbrev pub waiting_kept : Payload → List ℕ → ℕ → ℕ → Waiting
waiting_kept payload bytes len room =
    record { payload = payload; items = items_in (item_type payload) bytes 0 len; room = room }
