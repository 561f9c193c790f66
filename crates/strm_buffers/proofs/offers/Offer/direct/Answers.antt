use Rattle.std.proofs.Common.{subst, ap, ◌∙◌}
use Rattle.strm_buffers.specs.Offers.{Shows}
use Rattle.strm_buffers.proofs.OfferLemmas.{direct_list}
use Rattle.strm_buffers.proofs.offers.Offer.direct.Goals as goal

pub returns-in-Listed : goal.returns-in-Listed
returns-in-Listed c =
    subst (λ v. Shows v.source v.taken c.split_at-in-Listed.result.1.now) c.self.view_is
    (direct_list c.self.inside.payload c.self.inside.source c.in-Listed.items c.bytes-in-Listed.result.now _ c.self.inside.taken c.self.invariant.holds (ap (λ v. v.payload) c.self.view_is ∙ c.requires) c.in-Listed.is c.bytes-in-Listed.ensures.items c.bytes-in-Listed.ensures.all c.split_at-in-Listed.ensures.back)
