use Rattle.std.proofs.Common.{◌≡◌, ◌∷◌, ◌≤◌, ◌+◌, ◌-◌, ap, ◌∙◌, arith, rules, length}
use Rattle.strm_codes.specs.Measures.{extent, span}
use Rattle.strm_codes.specs.Spellings.{arity, behind, spelled, taken, type_with, AreSpelled}
use Rattle.strm_codes.specs.declared.measures.Extent.{Extent}
use Rattle.strm_codes.proofs.SpellingLemmas.{AreSpelled-behind, length-behind}
use Rattle.strm_codes.proofs.MeasureLemmas.{IsFirst, first_is, left_behind, span_more}
use Rattle.strm_codes.proofs.measures.+span_of.Goals as goal

pub span_of-more-requires : goal.span_of-more-requires
span_of-more-requires t c =
    let node = c.in-Some.node.now in
    let rest = c.in-Some.rest.now in
    let e : c.args.nodes.now ≡ node ∷ rest = search rules in
    let s : AreSpelled (node ∷ rest) = rw e at c.requires.spelled in
    let f : IsFirst node rest = first_is node rest s in
    let own : c.arity-own.result ≡ arity node = c.arity-own.ensures.exact in
    let is : c.skip.result.now ≡ behind (arity node) rest = c.skip.ensures ∙ ap (λ k. behind k rest) own in
    let inner : c.span_of.result ≡ span 0 (taken (arity node) (spelled rest)) = c.span_of.ensures.exact ∙ ap (λ k. span 0 (taken k (spelled rest))) own in
    let first : c.extent_of-first.result ≡ extent (type_with node (spelled rest)) = c.extent_of-first.ensures.exact (spelled rest) f.enough inner in
    let small : c.extent_of-first.result.bytes ≤ 128 = omega (arith, ap (λ (x : Extent). x.bytes) first, f.small) in
    let shorter : length (behind (arity node) rest) ≤ length rest = length-behind (arity node) rest in
    let whole : length c.args.nodes.now ≡ length rest + 1 = rw e (omega arith) in (
      search (rules, is, shorter, whole),
      (
        rw is (AreSpelled-behind (arity node) rest f.behind),
        (
          rw is (left_behind node rest c.args.parts s (rw e at c.requires.parts)),
          (
            omega (arith, c.requires.most),
            (
              rw is (omega (arith, shorter, whole, c.requires.few)),
              omega (arith, c.round.ensures.near, small, c.requires.small, c.if-parts-eq0.false),
            ),
          ),
        ),
      ),
    )

pub returns-clause-exact : goal.returns-clause-exact
returns-clause-exact t c =
    let node = c.in-Some.node.now in
    let rest = c.in-Some.rest.now in
    let e : c.args.nodes.now ≡ node ∷ rest = search rules in
    let s : AreSpelled (node ∷ rest) = rw e at c.requires.spelled in
    let f : IsFirst node rest = first_is node rest s in
    let own : c.arity-own.result ≡ arity node = c.arity-own.ensures.exact in
    let is : c.skip.result.now ≡ behind (arity node) rest = c.skip.ensures ∙ ap (λ k. behind k rest) own in
    let inner : c.span_of.result ≡ span 0 (taken (arity node) (spelled rest)) = c.span_of.ensures.exact ∙ ap (λ k. span 0 (taken k (spelled rest))) own in
    let first : c.extent_of-first.result ≡ extent (type_with node (spelled rest)) = c.extent_of-first.ensures.exact (spelled rest) f.enough inner in
    let more = c.span_of-more.ensures.exact ∙ ap (λ k. span (k + c.extent_of-first.result.bytes) (taken (c.args.parts - 1) (spelled c.skip.result.now))) c.round.ensures.exact in
    rw e (span_more node rest c.skip.result.now c.args.parts c.args.at c.max.result c.max-2.result c.extent_of-first.result c.span_of-more.result (omega (arith, c.if-parts-eq0.false)) is first more c.max.ensures c.max-2.ensures)
