use Rattle.std.proofs.Common.{◌+◌, ◌≤◌, length, sym, subst, arith}
use Rattle.strm_codes.specs.Layout.{item_type}
use Rattle.strm_buffers.specs.Offers.{Offered, good_lent}
use Rattle.strm_buffers.proofs.OfferLemmas.{lent_few, good_most, passed}
use Rattle.strm_buffers.proofs.offers.Offer.pass.Goals as goal

pub overflow_cast-self-3 : goal.overflow_cast-self-3
overflow_cast-self-3 c =
    let o = c.self.inside in
    let there = subst (λ (v : Offered). v.taken + c.args.count ≤ length (good_lent (item_type v.payload) v.source)) (sym c.self.view_is) c.requires in
    omega (arith, there, good_most (item_type o.payload) o.source, lent_few o.payload o.source c.self.invariant.holds)

pub invariant_of-self : goal.invariant_of-self
invariant_of-self c =
    let o = c.self.inside in
    let there = subst (λ (v : Offered). v.taken + c.args.count ≤ length (good_lent (item_type v.payload) v.source)) (sym c.self.view_is) c.requires in
    passed o.payload o.source o.taken c.args.count o.bad c.self.invariant there
