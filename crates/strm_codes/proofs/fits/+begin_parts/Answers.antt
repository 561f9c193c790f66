use Rattle.std.proofs.Common.{◌≡◌, ◌∷◌, ◌≤◌, ◌+◌, ◌-◌, false, true, length-drop, length, ap, refl, subst, ◌∙◌, arith, rules}
use Rattle.std.specs.Prelude.{IfSome}
use Rattle.strm_codes.specs.Spellings.{arity, behind, spelled, taken}
use Rattle.strm_codes.specs.Begins.{left_fields}
use Rattle.strm_codes.proofs.SpellingLemmas.{AreSpelled-behind, length-behind, spelled-behind}
use Rattle.strm_codes.proofs.MeasureLemmas.{IsFirst, first_is, left_behind}
use Rattle.strm_codes.proofs.SpellingLemmas.{none_spelled}
use Rattle.strm_codes.proofs.FitLemmas.{first_onward, first_back, first_left, begin_first, begin_split, left_split, none_begin, none_left}
use Rattle.strm_codes.proofs.fits.+begin_parts.Goals as goal

pub returns-in_default-clause-some : goal.returns-in_default-clause-some
returns-in_default-clause-some t c =
    let e : length c.args.nodes.now ≡ 0 = search rules in
    (λ h. none_begin c.args.parts (spelled c.args.nodes.now) c.args.numbers.now (omega (arith, c.requires.parts, none_spelled c.args.nodes.now e)), λ b. refl)

pub returns-in_default-clause-left : goal.returns-in_default-clause-left
returns-in_default-clause-left t c =
    let e : length c.args.nodes.now ≡ 0 = search rules in
    none_left c.args.parts (spelled c.args.nodes.now) c.args.numbers.now (omega (arith, c.requires.parts, none_spelled c.args.nodes.now e))

pub enter_numbers-requires-clause-counted : goal.enter_numbers-requires-clause-counted
enter_numbers-requires-clause-counted t c =
    let node = c.in-Some.node.now in
    let rest = c.in-Some.rest.now in
    let e : c.args.nodes.now ≡ node ∷ rest = search rules in
    let f : IsFirst node rest = first_is node rest (rw e at c.requires.spelled) in
    f.counted

pub enter_numbers-requires-clause-enough : goal.enter_numbers-requires-clause-enough
enter_numbers-requires-clause-enough t c =
    let node = c.in-Some.node.now in
    let rest = c.in-Some.rest.now in
    let e : c.args.nodes.now ≡ node ∷ rest = search rules in
    let f : IsFirst node rest = first_is node rest (rw e at c.requires.spelled) in
    f.enough

pub returns-in_default-enter_numbers-clause-some : goal.returns-in_default-enter_numbers-clause-some
returns-in_default-enter_numbers-clause-some t c =
    let node = c.in-Some.node.now in
    let rest = c.in-Some.rest.now in
    let e : c.args.nodes.now ≡ node ∷ rest = search rules in
    let some : 1 ≤ c.args.parts = omega (arith, c.if-parts-eq0.false) in
    (λ h. cc, λ b. absurd (c.in_default-enter_numbers.ensures.none refl (begin_first node rest c.args.nodes.now c.args.parts c.args.numbers.now e some b)))

pub skip-values-requires : goal.skip-values-requires
skip-values-requires t c =
    let node = c.in-Some.node.now in
    let rest = c.in-Some.rest.now in
    let e : c.args.nodes.now ≡ node ∷ rest = search rules in
    let own : c.arity-own.result ≡ arity node = c.arity-own.ensures.exact in
    let whole : length c.args.nodes.now ≡ length rest + 1 = rw e (omega arith) in
    omega (arith, c.in-Some-enter_numbers.ensures.some.within, own, c.arity-own.ensures.most, whole, c.requires.few)

pub begin_parts-requires : goal.begin_parts-requires
begin_parts-requires t c =
    let node = c.in-Some.node.now in
    let rest = c.in-Some.rest.now in
    let e : c.args.nodes.now ≡ node ∷ rest = search rules in
    let f : IsFirst node rest = first_is node rest (rw e at c.requires.spelled) in
    let own : c.arity-own.result ≡ arity node = c.arity-own.ensures.exact in
    let i = c.in-Some-enter_numbers.entered.inside in
    let within = c.in-Some-enter_numbers.ensures.some.within in
    let is = c.skip-values.ensures in
    let shorter : length (behind i.skipped rest) ≤ length rest = length-behind i.skipped rest in
    let whole : length c.args.nodes.now ≡ length rest + 1 = rw e (omega arith) in
    let fewer : i.skipped + i.parts ≤ length (spelled rest) = omega (arith, within, f.enough) in (
      search (rules, is, shorter, whole),
      (
        rw is (AreSpelled-behind i.skipped rest f.behind),
        (
          rw (is, spelled-behind i.skipped rest, length-drop) (omega (arith, fewer)),
          (
            omega (arith, within, own, c.arity-own.ensures.most),
            rw is (omega (arith, shorter, whole, c.requires.few)),
          ),
        ),
      ),
    )

pub returns-in_default-begin_parts-clause-some : goal.returns-in_default-begin_parts-clause-some
returns-in_default-begin_parts-clause-some t c =
    let node = c.in-Some.node.now in
    let rest = c.in-Some.rest.now in
    let e : c.args.nodes.now ≡ node ∷ rest = search rules in
    let some : 1 ≤ c.args.parts = omega (arith, c.if-parts-eq0.false) in (
      λ h. cc,
      λ b. absurd (let inside = first_onward node rest c.skip-values.result.now c.in-Some-enter_numbers.entered.inside c.in-Some-enter_numbers.entered.numbers c.args.numbers.now c.behind_numbers-own_left.result.now c.in-Some-enter_numbers.ensures.some.entered c.skip-values.ensures c.behind_numbers-own_left.ensures (begin_first node rest c.args.nodes.now c.args.parts c.args.numbers.now e some b) in
          let wrong : false ≡ true = c.in_default-begin_parts.ensures.some.1 inside in cc),
    )

pub begin_parts-requires-2 : goal.begin_parts-requires-2
begin_parts-requires-2 t c =
    let node = c.in-Some.node.now in
    let rest = c.in-Some.rest.now in
    let e : c.args.nodes.now ≡ node ∷ rest = search rules in
    let f : IsFirst node rest = first_is node rest (rw e at c.requires.spelled) in
    let own : c.arity-own.result ≡ arity node = c.arity-own.ensures.exact in
    let more : c.skip-more.result.now ≡ behind (arity node) rest = c.skip-more.ensures ∙ ap (λ k. behind k rest) own in
    let shorter : length (behind (arity node) rest) ≤ length rest = length-behind (arity node) rest in
    let whole : length c.args.nodes.now ≡ length rest + 1 = rw e (omega arith) in (
      search (rules, more, shorter, whole),
      (
        rw more (AreSpelled-behind (arity node) rest f.behind),
        (
          rw more (left_behind node rest c.args.parts (rw e at c.requires.spelled) (rw e at c.requires.parts)),
          (
            omega (arith, c.requires.most),
            rw more (omega (arith, shorter, whole, c.requires.few)),
          ),
        ),
      ),
    )

pub returns-clause-some : goal.returns-clause-some
returns-clause-some t c =
    let node = c.in-Some.node.now in
    let rest = c.in-Some.rest.now in
    let e : c.args.nodes.now ≡ node ∷ rest = search rules in
    let own : c.arity-own.result ≡ arity node = c.arity-own.ensures.exact in
    let some : 1 ≤ c.args.parts = omega (arith, c.if-parts-eq0.false) in
    let more : c.skip-more.result.now ≡ behind (arity node) rest = c.skip-more.ensures ∙ ap (λ k. behind k rest) own in
    let leftover = first_left node rest c.skip-values.result.now c.in-Some-enter_numbers.entered.inside c.in-Some-enter_numbers.entered.numbers c.args.numbers.now c.behind_numbers-own_left.result.now c.in-Some-enter_numbers.ensures.some.entered c.skip-values.ensures c.behind_numbers-own_left.ensures c.in-Some-begin_parts.left.now c.in-Some-begin_parts.ensures.left in
    let first = first_back node rest c.skip-values.result.now c.in-Some-enter_numbers.entered.inside c.in-Some-enter_numbers.entered.numbers c.args.numbers.now c.behind_numbers-own_left.result.now c.in-Some-enter_numbers.ensures.some.entered c.skip-values.ensures c.behind_numbers-own_left.ensures (c.in-Some-begin_parts.ensures.some.0 refl) in
    let split = begin_split node rest c.args.nodes.now c.skip-more.result.now c.args.parts c.args.numbers.now c.in-Some-begin_parts.left.now e some more leftover in
    (λ h. split.1 first (c.begin_parts-2.ensures.some.0 h), λ b. c.begin_parts-2.ensures.some.1 (split.0 b).1)

pub returns-clause-left : goal.returns-clause-left
returns-clause-left t c =
    let node = c.in-Some.node.now in
    let rest = c.in-Some.rest.now in
    let e : c.args.nodes.now ≡ node ∷ rest = search rules in
    let own : c.arity-own.result ≡ arity node = c.arity-own.ensures.exact in
    let some : 1 ≤ c.args.parts = omega (arith, c.if-parts-eq0.false) in
    let more : c.skip-more.result.now ≡ behind (arity node) rest = c.skip-more.ensures ∙ ap (λ k. behind k rest) own in
    let leftover = first_left node rest c.skip-values.result.now c.in-Some-enter_numbers.entered.inside c.in-Some-enter_numbers.entered.numbers c.args.numbers.now c.behind_numbers-own_left.result.now c.in-Some-enter_numbers.ensures.some.entered c.skip-values.ensures c.behind_numbers-own_left.ensures c.in-Some-begin_parts.left.now c.in-Some-begin_parts.ensures.left in
    let rest_left = left_fields (taken (c.args.parts - 1) (spelled c.skip-more.result.now)) c.in-Some-begin_parts.left.now in
    let same = left_split node rest c.args.nodes.now c.skip-more.result.now c.args.parts c.args.numbers.now c.in-Some-begin_parts.left.now rest_left e some more leftover refl in
    subst (λ ys. IfSome c.begin_parts-2.result (λ r. r.now ≡ ys)) same c.begin_parts-2.ensures.left
