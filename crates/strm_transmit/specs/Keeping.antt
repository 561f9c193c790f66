-- How places for kept items are made in a store. Ours.
use Rattle.std.specs.Prelude.{◌≡◌, ℕ, ◌<◌, ◌≤◌, List, [], length, slice_index_or, slice_set}
use Rattle.strm_codes.specs.declared.payloads.Payload.{Payload}
use Rattle.strm_buffers.specs.Listing.{TypedItems}
use Rattle.strm_machine.specs.State.{host_limit}
use Rattle.strm_transmit.specs.Inside.{padded_items, nothing_kept}

-- more places, of which those that were there are as they were, and which hold no more items
pub record HasGrown (old new : List TypedItems) : Type 0 where
  pub few : length new ≤ host_limit
  pub more : length old ≤ length new
  pub same : (m : ℕ) → m < length old → slice_index_or new m nothing_kept ≡ slice_index_or old m nothing_kept
  pub view : padded_items new ≡ padded_items old

-- the place of host writer n is of this payload and empty
pub record PlaceMade (old new : List TypedItems) (n : ℕ) (payload : Payload) : Type 0 where
  pub between : List TypedItems
  pub grown : HasGrown old between
  pub there : n < length between
  pub after : new ≡ slice_set between n (record { payload = payload; items = [] })
