use Rattle.std.proofs.Common.{◌≡◌, true, sym, ◌∙◌}
use Rattle.strm_codes.specs.Sameness.{same_payload}
use Rattle.strm_codes.proofs.SamenessLemmas.{Decides-same_payload}
use Rattle.strm_buffers.proofs.values.mismatch_of.Goals as goal

pub returns-then-eq-clause-some : goal.returns-then-eq-clause-some
returns-then-eq-clause-some c =
    let same = (Decides-same_payload c.args.expected c.args.found).0 (sym c.eq.ensures ∙ c.if-eq.true) in
    ((λ is. cc), (λ other. absurd (other same)))

pub returns-else-eq-clause-some : goal.returns-else-eq-clause-some
returns-else-eq-clause-some c =
    ((λ is same. let yes : same_payload c.args.expected c.args.found ≡ true = (Decides-same_payload c.args.expected c.args.found).1 same in cc (yes, c.eq.ensures, c.if-eq.false)), (λ other. λ i. true))
