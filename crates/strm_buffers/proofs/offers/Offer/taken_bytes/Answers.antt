use Rattle.std.proofs.Common.{◌≡◌, ◌*◌, length, take, drop, ap, subst, ◌∙◌}
use Rattle.strm_codes.specs.Layout.{item_type}
use Rattle.strm_codes.specs.ItemTypes.{item_size}
use Rattle.strm_memory.specs.Bytes.{IsBytes}
use Rattle.strm_buffers.specs.Listing.{LieIn, items_in}
use Rattle.strm_buffers.specs.Tells.{first_lent}
use Rattle.strm_buffers.specs.Offers.{Offered}
use Rattle.strm_buffers.proofs.OfferLemmas.{taken_lie}
use Rattle.strm_buffers.proofs.offers.Offer.taken_bytes.Goals as goal

pub returns-in-Region-clause-lie : goal.returns-in-Region-clause-lie
returns-in-Region-clause-lie c =
    let o = c.self.inside in
    let r = c.in-Region in
    let new = c.split_at-in-Region.result.0.now in
    let bytes = subst IsBytes c.bytes-bytes.ensures c.are_bytes.ensures in
    let is : new ≡ take (item_size (item_type o.payload) * o.taken) (drop r.address r.memory.bytes) = rw (← c.size.ensures.exact, ← c.bytes-bytes.ensures, ← c.split_at.ensures.back) c.split_at-in-Region.ensures.front in
    let size : length new ≡ item_size (item_type o.payload) * o.taken = c.split_at-in-Region.ensures.front_len ∙ ap (λ w. w * o.taken) c.size.ensures.exact in
    subst (λ (v : Offered). LieIn (item_type v.payload) new 0 v.taken) c.self.view_is (taken_lie o.payload o.source r.memory r.address r.count o.taken o.bad c.self.invariant r.is bytes new is size).lie

pub returns-in-Region-clause-items : goal.returns-in-Region-clause-items
returns-in-Region-clause-items c =
    let o = c.self.inside in
    let r = c.in-Region in
    let new = c.split_at-in-Region.result.0.now in
    let bytes = subst IsBytes c.bytes-bytes.ensures c.are_bytes.ensures in
    let is : new ≡ take (item_size (item_type o.payload) * o.taken) (drop r.address r.memory.bytes) = rw (← c.size.ensures.exact, ← c.bytes-bytes.ensures, ← c.split_at.ensures.back) c.split_at-in-Region.ensures.front in
    let size : length new ≡ item_size (item_type o.payload) * o.taken = c.split_at-in-Region.ensures.front_len ∙ ap (λ w. w * o.taken) c.size.ensures.exact in
    subst (λ (v : Offered). items_in (item_type v.payload) new 0 v.taken ≡ first_lent (item_type v.payload) v.source v.taken) c.self.view_is
    (taken_lie o.payload o.source r.memory r.address r.count o.taken o.bad c.self.invariant r.is bytes new is size).is
