use Rattle.std.proofs.Common.{◌≡◌, ◌≤◌, length, ap, sym, arith}
use Rattle.strm_codes.specs.ItemTypes.{part, most_align, most_size}
use Rattle.strm_codes.specs.Measures.{span}
use Rattle.strm_codes.specs.Spellings.{unit, units, taken}
use Rattle.strm_codes.specs.declared.measures.Span.{Span}
use Rattle.strm_codes.proofs.SpellingLemmas.{count-units, most_align-units, most_size-units, count-taken}
use Rattle.strm_codes.proofs.measures.extent_of.Goals as goal

pub returns-in-Enum-clause-exact : goal.returns-in-Enum-clause-exact
returns-in-Enum-clause-exact c ts h p =
    let n = c.in-Enum.cases in
    rw c.in-Enum.is (c.variant_extent.ensures.exact (units n) (cc (c.from-in-Enum.ensures, count-units n)) (sym (most_align-units n)) (sym (most_size-units n)))

pub returns-in-Option-clause-exact : goal.returns-in-Option-clause-exact
returns-in-Option-clause-exact c ts h p =
    let few : 1 ≤ length ts = rw c.in-Option.is at h in
    let is : c.args.parts ≡ span 0 (taken 1 ts) = rw c.in-Option.is at p in
    let one = count-taken 1 ts few in
    let align : c.args.parts.align ≡ most_align (taken 1 ts) = ap (λ (s : Span). s.align) is in
    let most : c.args.parts.most ≡ most_size (taken 1 ts) = ap (λ (s : Span). s.most) is in
    rw c.in-Option.is (c.variant_extent-in-Option.ensures.exact (part unit (taken 1 ts)) (omega (arith, one)) (omega (arith, align, c.requires.some)) (omega (arith, most)))

pub returns-in-Result-clause-exact : goal.returns-in-Result-clause-exact
returns-in-Result-clause-exact c ts h p =
    let few : 2 ≤ length ts = rw c.in-Result.is at h in
    let is : c.args.parts ≡ span 0 (taken 2 ts) = rw c.in-Result.is at p in
    rw c.in-Result.is (c.variant_extent-in-Result.ensures.exact (taken 2 ts) (sym (count-taken 2 ts few)) (ap (λ (s : Span). s.align) is) (ap (λ (s : Span). s.most) is))

pub returns-in-Variant-clause-exact : goal.returns-in-Variant-clause-exact
returns-in-Variant-clause-exact c ts h p =
    let n = c.in-Variant.cases in
    let few : n ≤ length ts = rw c.in-Variant.is at h in
    let is : c.args.parts ≡ span 0 (taken n ts) = rw c.in-Variant.is at p in
    rw c.in-Variant.is (c.variant_extent-in-Variant.ensures.exact (taken n ts) (cc (c.from-in-Variant.ensures, count-taken n ts few)) (ap (λ (s : Span). s.align) is) (ap (λ (s : Span). s.most) is))
