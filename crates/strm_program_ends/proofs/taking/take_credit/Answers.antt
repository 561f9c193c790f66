use Rattle.std.proofs.Common.{◌≤◌, ◌∙◌, ap, arith}
use Rattle.strm_buffers.specs.Offers.{items_lent, after_taking}
use Rattle.strm_buffers.proofs.OfferLemmas.{lent_few}
use Rattle.strm_program_ends.proofs.CreditLemmas.{taking_few}
use Rattle.strm_program_ends.proofs.taking.take_credit.Goals as goal

pub returns-clause-takes : goal.returns-clause-takes
returns-clause-takes c =
    let o = c.args.offer.now in
    let few : items_lent o.source ≤ 4294967295 = omega (arith, lent_few o.payload o.source c.sound.ensures.holds) in
    c.take_up_to.ensures.takes ∙ ap (λ n. after_taking n o) c.min.ensures ∙ taking_few o c.args.credit 4294967295 few
