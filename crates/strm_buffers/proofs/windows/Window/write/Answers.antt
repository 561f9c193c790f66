use Rattle.std.proofs.Common.{◌≡◌, length}
use Rattle.strm_codes.specs.Layout.{item_type}
use Rattle.strm_memory.specs.Items.{byte_items}
use Rattle.strm_buffers.specs.Listing.{items_in}
use Rattle.strm_buffers.proofs.ListingLemmas.{bytes_lie}
use Rattle.strm_buffers.proofs.windows.Window.write.Goals as goal

pub put_all-requires-clause-lie : goal.put_all-requires-clause-lie
put_all-requires-clause-lie c = rw c.requires.bytes (bytes_lie c.args.bytes.now c.are_bytes.ensures).lie

pub returns-clause-ok : goal.returns-clause-ok
returns-clause-ok c =
    let bytes = c.args.bytes.now in
    let is : items_in (item_type c.args.self.now.payload) bytes 0 (length bytes) ≡ byte_items bytes =
    rw c.requires.bytes (bytes_lie bytes c.are_bytes.ensures).is in
    rw is at c.put_all.ensures.ok
