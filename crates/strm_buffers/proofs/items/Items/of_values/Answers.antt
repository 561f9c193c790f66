use Rattle.std.proofs.Common.{◌≡◌, length, map, ap, ◌∙◌, arith}
use Rattle.std.proofs.lemmas.List.{length-map}
use Rattle.strm_codes.specs.Layout.{item_type}
use Rattle.strm_buffers.specs.Listing.{items_in}
use Rattle.strm_buffers.proofs.ListingLemmas.{kept_stored}
use Rattle.strm_buffers.proofs.items.Items.of_values.Goals as goal

pub of_bytes-requires : goal.of_bytes-requires
of_bytes-requires g c =
    let xs = map g.T.Payloaded.item c.args.values.items in
    let count : c.len-count.result ≡ length xs = omega (arith, c.len-count.ensures, length-map c.args.values.items g.T.Payloaded.item, c.args.values.ok.0) in
    rw c.payload.ensures (kept_stored g.T.Payloaded.payload c.in_ok-bytes.bytes.items xs c.len-count.result c.in_ok-bytes.ensures.stored count (omega (arith, c.len-count.ensures, c.requires, c.args.values.ok.0))).0

pub returns-clause-items : goal.returns-clause-items
returns-clause-items g c =
    let xs = map g.T.Payloaded.item c.args.values.items in
    let count : c.len-count.result ≡ length xs = omega (arith, c.len-count.ensures, length-map c.args.values.items g.T.Payloaded.item, c.args.values.ok.0) in
    ap (λ v. v.items) c.of_bytes.ensures
    ∙ ap (λ p. items_in (item_type p) c.in_ok-bytes.bytes.items 0 c.len-count.result) c.payload.ensures
    ∙ (kept_stored g.T.Payloaded.payload c.in_ok-bytes.bytes.items xs c.len-count.result c.in_ok-bytes.ensures.stored count (omega (arith, c.len-count.ensures, c.requires, c.args.values.ok.0))).1
