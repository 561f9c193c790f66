-- What a scripted host reader keeps of the items that it takes: their bytes. Ours.
use Rattle.std.specs.Prelude.{◌≡◌, ℕ, ◌+◌, ◌*◌, Bool, true, false, List, [], ◌∷◌, length, Option, Some, None, IsSome}
use Rattle.strm_codes.specs.Layout.{item_type}
use Rattle.strm_codes.specs.ItemTypes.{item_size}
use Rattle.strm_codes.specs.declared.payloads.Payload.{Payload}
use Rattle.strm_memory.specs.Items.{items_at}
use Rattle.strm_buffers.specs.declared.answers.ReaderSaid.{ReaderSaid}
use Rattle.strm_buffers.specs.Listing.{Item, items_in}

-- how many items were taken in these polls
abbrev pub taken_in_polls : List ReaderSaid → ℕ
taken_in_polls [] = 0
taken_in_polls (said ∷ saids) = said.taken + taken_in_polls saids

-- these bytes are the items that were taken in these polls, where they are kept
pub record AreTaken (payload : Payload) (bytes : List ℕ) (saids : List ReaderSaid) : Type 0 where
  pub all : length bytes ≡ item_size (item_type payload) * taken_in_polls saids
  pub good : IsSome (items_at (item_type payload) bytes 0 (taken_in_polls saids))

-- the items that it tells: those that the bytes are, where it keeps them
abbrev pub items_kept : Bool → Payload → List ℕ → List ReaderSaid → Option (List Item)
items_kept true payload bytes saids = Some (items_in (item_type payload) bytes 0 (taken_in_polls saids))
items_kept false payload bytes saids = None
