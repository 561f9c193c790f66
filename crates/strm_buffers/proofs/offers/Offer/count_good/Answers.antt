use Rattle.std.proofs.Common.{◌≡◌, ◌+◌, ◌*◌, ◌≤◌, min, length, drop, sym, subst, ◌∙◌, arith}
use Rattle.strm_codes.specs.Layout.{item_type}
use Rattle.strm_memory.proofs.GoodLemmas.{length-good_items}
use Rattle.strm_buffers.specs.Offers.{Offered, items_lent, left_of}
use Rattle.strm_buffers.proofs.OfferLemmas.{left_fits, count_left}
use Rattle.strm_buffers.proofs.offers.Offer.count_good.Goals as goal

pub count_good_items-requires : goal.count_good_items-requires
count_good_items-requires c =
    let o = c.self.inside in
    let r = c.in-Region in
    let there = subst (λ (v : Offered). v.taken + c.args.count ≤ items_lent v.source) (sym c.self.view_is) c.requires in
    rw (c.size.ensures.exact, c.bytes.ensures) (left_fits o.payload o.source o.taken c.args.count r.memory r.address r.count r.is there c.self.invariant.holds)

pub overflow_cast-result : goal.overflow_cast-result
overflow_cast-result c =
    let most = length-good_items (item_type c.self.inside.payload) (drop (c.in-Region.address + c.size.result * c.self.inside.taken) c.bytes.result.now) c.args.count in
    omega (arith, most, c.count_good_items.ensures, c.ranges.count)

pub returns-in-Region : goal.returns-in-Region
returns-in-Region c =
    let o = c.self.inside in
    let r = c.in-Region in
    let there = subst (λ (v : Offered). v.taken + c.args.count ≤ items_lent v.source) (sym c.self.view_is) c.requires in
    let left = count_left o.payload o.source o.taken c.args.count r.memory r.address r.count r.is there c.self.invariant.good in
    let counted = rw (c.size.ensures.exact, c.bytes.ensures) at c.count_good_items.ensures in
    subst (λ (v : Offered). c.count_good_items.result ≡ min c.args.count (length (left_of v))) c.self.view_is (counted ∙ left)
