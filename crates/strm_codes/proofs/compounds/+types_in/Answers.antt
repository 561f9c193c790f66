use Rattle.std.proofs.Common.{◌≡◌, ◌∷◌, ◌≤◌, length, ap, sym, ◌∙◌, refl, arith, rules, true}
use Rattle.strm_codes.specs.ItemTypes.{item_size}
use Rattle.strm_codes.specs.Measures.{span}
use Rattle.strm_codes.specs.Spellings.{arity, spelled, taken, type_with, AreSpelled, HasCount}
use Rattle.strm_codes.specs.declared.measures.Extent.{Extent}
use Rattle.strm_codes.proofs.MeasureLemmas.{first_is}
use Rattle.strm_codes.proofs.SpellingLemmas.{none_spelled}
use Rattle.strm_codes.proofs.CompoundLemmas.{none_are, one_more, length-spelled}
use Rattle.strm_codes.proofs.compounds.+types_in.Goals as goal

pub returns-in_default-clause-some : goal.returns-in_default-clause-some
returns-in_default-clause-some t c =
    let e : length c.args.nodes.now ≡ 0 = search rules in
    (λ h. none_are c.args.nodes.now e, λ h. refl)

pub returns-in_default-clause-count : goal.returns-in_default-clause-count
returns-in_default-clause-count t c =
    let e : length c.args.nodes.now ≡ 0 = search rules in
    sym (none_spelled c.args.nodes.now e)

pub returns-in_default-types_in-clause-some : goal.returns-in_default-types_in-clause-some
returns-in_default-types_in-clause-some t c =
    let e : c.args.nodes.now ≡ c.in-Some.node.now ∷ c.in-Some.rest.now = search rules in
    (λ h. cc, λ h. (let f = first_is c.in-Some.node.now c.in-Some.rest.now (rw e at h) in c.in_default-types_in.ensures.some.1 f.behind))

pub returns-then-own-types-clause-some : goal.returns-then-own-types-clause-some
returns-then-own-types-clause-some t c =
    let e : c.args.nodes.now ≡ c.in-Some.node.now ∷ c.in-Some.rest.now = search rules in
    (λ h. cc, λ h. (let f = first_is c.in-Some.node.now c.in-Some.rest.now (rw e at h) in absurd (omega (arith, f.enough, c.arity-own.ensures.exact, c.in-Some-types_in.ensures.count, c.if-own-types.true))))

pub returns-then-not-has_count-clause-some : goal.returns-then-not-has_count-clause-some
returns-then-not-has_count-clause-some t c =
    let e : c.args.nodes.now ≡ c.in-Some.node.now ∷ c.in-Some.rest.now = search rules in
    (λ h. cc, λ h. (let f = first_is c.in-Some.node.now c.in-Some.rest.now (rw e at h) in (let y : c.has_count.result ≡ true = c.has_count.ensures.1 f.counted in cc (y, c.if-not-has_count.true))))

pub returns-then-extent-gt128-clause-some : goal.returns-then-extent-gt128-clause-some
returns-then-extent-gt128-clause-some t c =
    let node = c.in-Some.node.now in
    let rest = c.in-Some.rest.now in
    let e : c.args.nodes.now ≡ node ∷ rest = search rules in
    let own : c.arity-own.result ≡ arity node = c.arity-own.ensures.exact in
    let inner : c.span_of.result ≡ span 0 (taken (arity node) (spelled rest)) = c.span_of.ensures.exact ∙ ap (λ k. span 0 (taken k (spelled rest))) own in
    (λ h. cc, λ h. (let f = first_is node rest (rw e at h) in (let is = c.extent_of-extent.ensures.exact (spelled rest) f.enough inner in absurd (omega (arith, f.small, ap (λ (x : Extent). x.bytes) is, c.if-extent-gt128.true)))))

pub returns-clause-some : goal.returns-clause-some
returns-clause-some t c =
    let node = c.in-Some.node.now in
    let rest = c.in-Some.rest.now in
    let e : c.args.nodes.now ≡ node ∷ rest = search rules in
    let own : c.arity-own.result ≡ arity node = c.arity-own.ensures.exact in
    let inner : c.span_of.result ≡ span 0 (taken (arity node) (spelled rest)) = c.span_of.ensures.exact ∙ ap (λ k. span 0 (taken k (spelled rest))) own in
    let enough : arity node ≤ length (spelled rest) = omega (arith, own, c.in-Some-types_in.ensures.count, c.if-own-types.false) in
    let is = c.extent_of-extent.ensures.exact (spelled rest) enough inner in
    let behind : AreSpelled rest = c.in-Some-types_in.ensures.some.0 refl in
    let counted : HasCount node = c.has_count.ensures.0 c.if-not-has_count.false in
    let small : item_size (type_with node (spelled rest)) ≤ 128 = omega (arith, ap (λ (x : Extent). x.bytes) is, c.if-extent-gt128.false) in
    (λ h. rw e (one_more node rest behind counted enough small), λ h. refl)

pub returns-clause-count : goal.returns-clause-count
returns-clause-count t c =
    let node = c.in-Some.node.now in
    let rest = c.in-Some.rest.now in
    let e : c.args.nodes.now ≡ node ∷ rest = search rules in
    let own : c.arity-own.result ≡ arity node = c.arity-own.ensures.exact in
    let enough : arity node ≤ length (spelled rest) = omega (arith, own, c.in-Some-types_in.ensures.count, c.if-own-types.false) in
    rw e (omega (arith, length-spelled node rest enough, own, c.in-Some-types_in.ensures.count))
