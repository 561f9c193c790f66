-- Where in its guest's memory the next items of a read or write lie, and what is offered of them. Ours.
use Rattle.std.specs.Prelude.{ℕ, false, ◌==◌, ◌||◌, if◌then◌else◌, List}
use Rattle.strm_codes.specs.Layout.{item_type}
use Rattle.strm_codes.specs.ItemTypes.{item_size}
use Rattle.strm_codes.specs.declared.payloads.Payload.{Payload}
use Rattle.strm_buffers.specs.declared.sources.Source.TheVariants.{Region}
use Rattle.strm_buffers.specs.Offers.{Offered}
use Rattle.strm_machine.specs.State.{Guest}
use Rattle.strm_machine.specs.declared.streams.Operation.{Operation}
use Rattle.strm_channels.specs.Guests.{linear_in}

-- the address of the next items; those that take no bytes may be read or written at any address, past
-- the memory's end too, and then lie at its front
abbrev pub region_address : Payload → Operation → ℕ
region_address payload operation =
    if (item_size (item_type payload) == 0) || (operation.left == 0) then 0 else operation.address

-- the offer of the items that a write has left, so many being taken since the host reader was last ready
abbrev pub lent_items : List Guest → Payload → Operation → ℕ → Offered
lent_items guests payload write since = record {
  payload = payload;
  source = Region (linear_in guests write.guest) (region_address payload write) write.left;
  since = since;
  taken = 0;
  bad = false;
}
