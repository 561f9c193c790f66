use Rattle.std.proofs.Common.{◌≡◌, ◌∷◌, ◌≤◌, ◌+◌, true, false, None, length-drop, length, drop, ap, ◌∙◌, arith, rules}
use Rattle.strm_codes.specs.ItemTypes.{rounded}
use Rattle.strm_codes.specs.Measures.{extent, span}
use Rattle.strm_codes.specs.Spellings.{arity, behind, spelled, taken, type_with}
use Rattle.strm_codes.specs.declared.measures.Extent.{Extent}
use Rattle.strm_codes.proofs.SpellingLemmas.{AreSpelled-behind, length-behind, spelled-behind}
use Rattle.strm_codes.proofs.MeasureLemmas.{IsFirst, first_is, left_behind}
use Rattle.std.specs.Bool.{then_some}
use Rattle.strm_memory.specs.Loads.{decode_parts}
use Rattle.strm_memory.specs.Walks.{with_front}
use Rattle.strm_memory.proofs.WalkLemmas.{not_some}
use Rattle.strm_memory.proofs.StepLemmas.{IsStep, first_room, end_of_first, fields_first, lifts_on, lifts_none, first_none, nothing_lifted, few_inside, few_all}
use Rattle.strm_codes.proofs.SpellingLemmas.{none_spelled}
use Rattle.strm_memory.proofs.lifts.+lift_parts.Goals as goal

pub returns-then-parts-eq0-clause-exact : goal.returns-then-parts-eq0-clause-exact
returns-then-parts-eq0-clause-exact t c = nothing_lifted c.args.item.now c.args.parts c.args.at (spelled c.args.nodes.now) (drop (c.args.from + c.args.at) c.args.bytes.now) (omega (arith, c.if-parts-eq0.true))

pub returns-then-parts-eq0-clause-few : goal.returns-then-parts-eq0-clause-few
returns-then-parts-eq0-clause-few t c all = omega (arith, length-behind c.args.parts c.args.nodes.now)

pub returns-in_default-clause-exact : goal.returns-in_default-clause-exact
returns-in_default-clause-exact t c =
    let e : length c.args.nodes.now ≡ 0 = search rules in
    nothing_lifted c.args.item.now c.args.parts c.args.at (spelled c.args.nodes.now) (drop (c.args.from + c.args.at) c.args.bytes.now) (omega (arith, c.requires.parts, none_spelled c.args.nodes.now e))

pub returns-in_default-clause-few : goal.returns-in_default-clause-few
returns-in_default-clause-few t c all = omega (arith, length-behind c.args.parts c.args.nodes.now)

pub span_of-inner-requires-clause-spelled : goal.span_of-inner-requires-clause-spelled
span_of-inner-requires-clause-spelled t c =
    let e : c.args.nodes.now ≡ c.in-Some.node.now ∷ c.in-Some.rest.now = search rules in
    (first_is c.in-Some.node.now c.in-Some.rest.now (rw e at c.requires.spelled)).behind

pub span_of-inner-requires-clause-parts : goal.span_of-inner-requires-clause-parts
span_of-inner-requires-clause-parts t c =
    let e : c.args.nodes.now ≡ c.in-Some.node.now ∷ c.in-Some.rest.now = search rules in
    omega (arith, c.arity-own.ensures.exact, (first_is c.in-Some.node.now c.in-Some.rest.now (rw e at c.requires.spelled)).enough)

pub enter-requires-clause-counted : goal.enter-requires-clause-counted
enter-requires-clause-counted t c =
    let e : c.args.nodes.now ≡ c.in-Some.node.now ∷ c.in-Some.rest.now = search rules in
    (first_is c.in-Some.node.now c.in-Some.rest.now (rw e at c.requires.spelled)).counted

pub enter-requires-clause-enough : goal.enter-requires-clause-enough
enter-requires-clause-enough t c =
    let e : c.args.nodes.now ≡ c.in-Some.node.now ∷ c.in-Some.rest.now = search rules in
    (first_is c.in-Some.node.now c.in-Some.rest.now (rw e at c.requires.spelled)).enough

pub enter-requires-clause-holds : goal.enter-requires-clause-holds
enter-requires-clause-holds t c =
    let node = c.in-Some.node.now in
    let rest = c.in-Some.rest.now in
    let e : c.args.nodes.now ≡ node ∷ rest = search rules in
    let f : IsFirst node rest = first_is node rest (rw e at c.requires.spelled) in
    let own : c.arity-own.result ≡ arity node = c.arity-own.ensures.exact in
    let inner : c.span_of-inner.result ≡ span 0 (taken (arity node) (spelled rest)) = c.span_of-inner.ensures.exact ∙ ap (λ k. span 0 (taken k (spelled rest))) own in
    let first : c.extent_of-first.result ≡ extent (type_with node (spelled rest)) = c.extent_of-first.ensures.exact (spelled rest) f.enough inner in
    let step : IsStep node rest c.args.at c.round-start.result c.extent_of-first.result.bytes = record {
      starts = c.round-start.ensures.exact ∙ ap (λ (x : Extent). rounded c.args.at x.align) first;
      takes = ap (λ (x : Extent). x.bytes) first;
    } in
    let some : 1 ≤ c.args.parts = omega (arith, c.if-parts-eq0.false) in
    omega (arith, rw e at c.requires.holds, first_room node rest c.args.parts c.args.at c.round-start.result c.extent_of-first.result.bytes some step, step.takes)

pub returns-in_default-enter-clause-exact : goal.returns-in_default-enter-clause-exact
returns-in_default-enter-clause-exact t c =
    let node = c.in-Some.node.now in
    let rest = c.in-Some.rest.now in
    let e : c.args.nodes.now ≡ node ∷ rest = search rules in
    let f : IsFirst node rest = first_is node rest (rw e at c.requires.spelled) in
    let own : c.arity-own.result ≡ arity node = c.arity-own.ensures.exact in
    let inner : c.span_of-inner.result ≡ span 0 (taken (arity node) (spelled rest)) = c.span_of-inner.ensures.exact ∙ ap (λ k. span 0 (taken k (spelled rest))) own in
    let first : c.extent_of-first.result ≡ extent (type_with node (spelled rest)) = c.extent_of-first.ensures.exact (spelled rest) f.enough inner in
    let step : IsStep node rest c.args.at c.round-start.result c.extent_of-first.result.bytes = record {
      starts = c.round-start.ensures.exact ∙ ap (λ (x : Extent). rounded c.args.at x.align) first;
      takes = ap (λ (x : Extent). x.bytes) first;
    } in
    let some : 1 ≤ c.args.parts = omega (arith, c.if-parts-eq0.false) in
    let split = fields_first node rest c.args.parts c.args.at c.round-start.result c.extent_of-first.result.bytes c.args.from c.args.bytes.now some step in
    rw e (first_none c.args.item.now _ _ _ split (c.enter.ensures.none (not_some c.enter.result c.in_default-enter.not-Some)))

pub lift_parts-requires : goal.lift_parts-requires
lift_parts-requires t c =
    let node = c.in-Some.node.now in
    let rest = c.in-Some.rest.now in
    let e : c.args.nodes.now ≡ node ∷ rest = search rules in
    let f : IsFirst node rest = first_is node rest (rw e at c.requires.spelled) in
    let own : c.arity-own.result ≡ arity node = c.arity-own.ensures.exact in
    let inner : c.span_of-inner.result ≡ span 0 (taken (arity node) (spelled rest)) = c.span_of-inner.ensures.exact ∙ ap (λ k. span 0 (taken k (spelled rest))) own in
    let first : c.extent_of-first.result ≡ extent (type_with node (spelled rest)) = c.extent_of-first.ensures.exact (spelled rest) f.enough inner in
    let step : IsStep node rest c.args.at c.round-start.result c.extent_of-first.result.bytes = record {
      starts = c.round-start.ensures.exact ∙ ap (λ (x : Extent). rounded c.args.at x.align) first;
      takes = ap (λ (x : Extent). x.bytes) first;
    } in
    let some : 1 ≤ c.args.parts = omega (arith, c.if-parts-eq0.false) in
    let i = c.in-Some-enter.inside in
    let en = c.in-Some-enter.ensures.some in
    let values = c.skip-values.result.now in
    let is : values ≡ behind i.skipped rest = c.skip-values.ensures in
    let spells : spelled values ≡ drop i.skipped (spelled rest) = ap spelled is ∙ spelled-behind i.skipped rest in
    let place : c.args.from + c.round-start.result + i.offset + 0 ≡ c.args.from + c.round-start.result + i.offset = omega arith in
    let shorter : length (behind i.skipped rest) ≤ length rest = length-behind i.skipped rest in
    let whole : length c.args.nodes.now ≡ length rest + 1 = rw e (omega arith) in
    let fewer : i.skipped + i.parts ≤ length (spelled rest) = omega (arith, en.within, f.enough) in
    let room = first_room node rest c.args.parts c.args.at c.round-start.result c.extent_of-first.result.bytes some step in
    let most : i.parts ≤ 255 = omega (arith, en.within, own, c.arity-own.ensures.most) in (
      search (rules, is, shorter, whole),
      (
        rw is (AreSpelled-behind i.skipped rest f.behind),
        (
          rw (spells, length-drop) (omega (arith, fewer)),
          (
            most,
            (
              omega (arith, most),
              (
                rw is (omega (arith, shorter, whole, en.few, c.requires.few)),
                rw spells (omega (arith, en.room, step.takes, room, rw e at c.requires.holds)),
              ),
            ),
          ),
        ),
      ),
    )

pub returns-then-not-lift_parts-clause-exact : goal.returns-then-not-lift_parts-clause-exact
returns-then-not-lift_parts-clause-exact t c =
    let node = c.in-Some.node.now in
    let rest = c.in-Some.rest.now in
    let e : c.args.nodes.now ≡ node ∷ rest = search rules in
    let f : IsFirst node rest = first_is node rest (rw e at c.requires.spelled) in
    let own : c.arity-own.result ≡ arity node = c.arity-own.ensures.exact in
    let inner : c.span_of-inner.result ≡ span 0 (taken (arity node) (spelled rest)) = c.span_of-inner.ensures.exact ∙ ap (λ k. span 0 (taken k (spelled rest))) own in
    let first : c.extent_of-first.result ≡ extent (type_with node (spelled rest)) = c.extent_of-first.ensures.exact (spelled rest) f.enough inner in
    let step : IsStep node rest c.args.at c.round-start.result c.extent_of-first.result.bytes = record {
      starts = c.round-start.ensures.exact ∙ ap (λ (x : Extent). rounded c.args.at x.align) first;
      takes = ap (λ (x : Extent). x.bytes) first;
    } in
    let some : 1 ≤ c.args.parts = omega (arith, c.if-parts-eq0.false) in
    let i = c.in-Some-enter.inside in
    let en = c.in-Some-enter.ensures.some in
    let values = c.skip-values.result.now in
    let is : values ≡ behind i.skipped rest = c.skip-values.ensures in
    let spells : spelled values ≡ drop i.skipped (spelled rest) = ap spelled is ∙ spelled-behind i.skipped rest in
    let place : c.args.from + c.round-start.result + i.offset + 0 ≡ c.args.from + c.round-start.result + i.offset = omega arith in
    let split = fields_first node rest c.args.parts c.args.at c.round-start.result c.extent_of-first.result.bytes c.args.from c.args.bytes.now some step in
    let values_loaded : decode_parts 0 (taken i.parts (spelled values)) (drop (c.args.from + c.round-start.result + i.offset + 0) c.args.bytes.now) ≡ decode_parts 0 (taken i.parts (drop i.skipped (spelled rest))) (drop (c.args.from + c.round-start.result + i.offset) c.args.bytes.now) =
    ap (λ ts. decode_parts 0 (taken i.parts ts) (drop (c.args.from + c.round-start.result + i.offset + 0) c.args.bytes.now)) spells ∙ ap (λ k. decode_parts 0 (taken i.parts (drop i.skipped (spelled rest))) (drop k c.args.bytes.now)) place in
    let got : then_some c.lift_parts.result c.lift_parts.new.item ≡ with_front c.enter.new.item (decode_parts 0 (taken i.parts (drop i.skipped (spelled rest))) (drop (c.args.from + c.round-start.result + i.offset) c.args.bytes.now)) = c.lift_parts.ensures.exact ∙ ap (with_front c.enter.new.item) values_loaded in
    let bad : c.lift_parts.result ≡ false = c.if-not-lift_parts.true in
    let none : None ≡ with_front c.enter.new.item (decode_parts 0 (taken i.parts (drop i.skipped (spelled rest))) (drop (c.args.from + c.round-start.result + i.offset) c.args.bytes.now)) = rw bad at got in
    rw e (lifts_none c.args.item.now c.enter.new.item c.lift_parts.new.item _ _ _ _ split en.same none)

pub overflow_add-start : goal.overflow_add-start
overflow_add-start t c =
    let node = c.in-Some.node.now in
    let rest = c.in-Some.rest.now in
    let e : c.args.nodes.now ≡ node ∷ rest = search rules in
    let f : IsFirst node rest = first_is node rest (rw e at c.requires.spelled) in
    let own : c.arity-own.result ≡ arity node = c.arity-own.ensures.exact in
    let inner : c.span_of-inner.result ≡ span 0 (taken (arity node) (spelled rest)) = c.span_of-inner.ensures.exact ∙ ap (λ k. span 0 (taken k (spelled rest))) own in
    let first : c.extent_of-first.result ≡ extent (type_with node (spelled rest)) = c.extent_of-first.ensures.exact (spelled rest) f.enough inner in
    let step : IsStep node rest c.args.at c.round-start.result c.extent_of-first.result.bytes = record {
      starts = c.round-start.ensures.exact ∙ ap (λ (x : Extent). rounded c.args.at x.align) first;
      takes = ap (λ (x : Extent). x.bytes) first;
    } in
    let some : 1 ≤ c.args.parts = omega (arith, c.if-parts-eq0.false) in
    search (rules, step.takes, f.small, c.round-start.ensures.near, c.requires.small)

pub lift_parts-requires-2 : goal.lift_parts-requires-2
lift_parts-requires-2 t c =
    let node = c.in-Some.node.now in
    let rest = c.in-Some.rest.now in
    let e : c.args.nodes.now ≡ node ∷ rest = search rules in
    let f : IsFirst node rest = first_is node rest (rw e at c.requires.spelled) in
    let own : c.arity-own.result ≡ arity node = c.arity-own.ensures.exact in
    let inner : c.span_of-inner.result ≡ span 0 (taken (arity node) (spelled rest)) = c.span_of-inner.ensures.exact ∙ ap (λ k. span 0 (taken k (spelled rest))) own in
    let first : c.extent_of-first.result ≡ extent (type_with node (spelled rest)) = c.extent_of-first.ensures.exact (spelled rest) f.enough inner in
    let step : IsStep node rest c.args.at c.round-start.result c.extent_of-first.result.bytes = record {
      starts = c.round-start.ensures.exact ∙ ap (λ (x : Extent). rounded c.args.at x.align) first;
      takes = ap (λ (x : Extent). x.bytes) first;
    } in
    let some : 1 ≤ c.args.parts = omega (arith, c.if-parts-eq0.false) in
    let i = c.in-Some-enter.inside in
    let en = c.in-Some-enter.ensures.some in
    let values = c.skip-values.result.now in
    let is : values ≡ behind i.skipped rest = c.skip-values.ensures in
    let spells : spelled values ≡ drop i.skipped (spelled rest) = ap spelled is ∙ spelled-behind i.skipped rest in
    let place : c.args.from + c.round-start.result + i.offset + 0 ≡ c.args.from + c.round-start.result + i.offset = omega arith in
    let good : c.lift_parts.result ≡ true = c.if-not-lift_parts.false in
    let left = few_inside node rest values i.skipped i.parts c.args.item.now c.enter.new.item c.lift_parts.new.item is en.within en.few (c.lift_parts.ensures.few good) in
    let more : c.skip-more.result.now ≡ behind (arity node) rest = c.skip-more.ensures ∙ ap (λ k. behind k rest) own in
    let shorter : length (behind (arity node) rest) ≤ length rest = length-behind (arity node) rest in
    let whole : length c.args.nodes.now ≡ length rest + 1 = rw e (omega arith) in
    let end = end_of_first node rest c.args.parts c.args.at c.round-start.result c.extent_of-first.result.bytes some step in (
      search (rules, more, shorter, whole),
      (
        rw more (AreSpelled-behind (arity node) rest f.behind),
        (
          rw more (left_behind node rest c.args.parts (rw e at c.requires.spelled) (rw e at c.requires.parts)),
          (
            omega (arith, c.requires.most),
            (
              omega (arith, c.round-start.ensures.near, step.takes, f.small, c.requires.small, c.if-parts-eq0.false),
              (
                rw more (omega (arith, left, whole, c.requires.few)),
                rw (more, ← end, ← e) c.requires.holds,
              ),
            ),
          ),
        ),
      ),
    )

pub returns-clause-exact : goal.returns-clause-exact
returns-clause-exact t c =
    let node = c.in-Some.node.now in
    let rest = c.in-Some.rest.now in
    let e : c.args.nodes.now ≡ node ∷ rest = search rules in
    let f : IsFirst node rest = first_is node rest (rw e at c.requires.spelled) in
    let own : c.arity-own.result ≡ arity node = c.arity-own.ensures.exact in
    let inner : c.span_of-inner.result ≡ span 0 (taken (arity node) (spelled rest)) = c.span_of-inner.ensures.exact ∙ ap (λ k. span 0 (taken k (spelled rest))) own in
    let first : c.extent_of-first.result ≡ extent (type_with node (spelled rest)) = c.extent_of-first.ensures.exact (spelled rest) f.enough inner in
    let step : IsStep node rest c.args.at c.round-start.result c.extent_of-first.result.bytes = record {
      starts = c.round-start.ensures.exact ∙ ap (λ (x : Extent). rounded c.args.at x.align) first;
      takes = ap (λ (x : Extent). x.bytes) first;
    } in
    let some : 1 ≤ c.args.parts = omega (arith, c.if-parts-eq0.false) in
    let i = c.in-Some-enter.inside in
    let en = c.in-Some-enter.ensures.some in
    let values = c.skip-values.result.now in
    let is : values ≡ behind i.skipped rest = c.skip-values.ensures in
    let spells : spelled values ≡ drop i.skipped (spelled rest) = ap spelled is ∙ spelled-behind i.skipped rest in
    let place : c.args.from + c.round-start.result + i.offset + 0 ≡ c.args.from + c.round-start.result + i.offset = omega arith in
    let split = fields_first node rest c.args.parts c.args.at c.round-start.result c.extent_of-first.result.bytes c.args.from c.args.bytes.now some step in
    let values_loaded : decode_parts 0 (taken i.parts (spelled values)) (drop (c.args.from + c.round-start.result + i.offset + 0) c.args.bytes.now) ≡ decode_parts 0 (taken i.parts (drop i.skipped (spelled rest))) (drop (c.args.from + c.round-start.result + i.offset) c.args.bytes.now) =
    ap (λ ts. decode_parts 0 (taken i.parts ts) (drop (c.args.from + c.round-start.result + i.offset + 0) c.args.bytes.now)) spells ∙ ap (λ k. decode_parts 0 (taken i.parts (drop i.skipped (spelled rest))) (drop k c.args.bytes.now)) place in
    let got : then_some c.lift_parts.result c.lift_parts.new.item ≡ with_front c.enter.new.item (decode_parts 0 (taken i.parts (drop i.skipped (spelled rest))) (drop (c.args.from + c.round-start.result + i.offset) c.args.bytes.now)) = c.lift_parts.ensures.exact ∙ ap (with_front c.enter.new.item) values_loaded in
    let more : c.skip-more.result.now ≡ behind (arity node) rest = c.skip-more.ensures ∙ ap (λ k. behind k rest) own in
    let good : c.lift_parts.result ≡ true = c.if-not-lift_parts.false in
    let rest_lifted = rw more at c.lift_parts-2.ensures.exact in
    rw e (lifts_on c.args.item.now c.enter.new.item c.lift_parts.new.item c.lift_parts-2.new.item c.lift_parts.result c.lift_parts-2.result _ _ _ _ split en.same got good rest_lifted)

pub returns-clause-few : goal.returns-clause-few
returns-clause-few t c all =
    let node = c.in-Some.node.now in
    let rest = c.in-Some.rest.now in
    let e : c.args.nodes.now ≡ node ∷ rest = search rules in
    let f : IsFirst node rest = first_is node rest (rw e at c.requires.spelled) in
    let own : c.arity-own.result ≡ arity node = c.arity-own.ensures.exact in
    let inner : c.span_of-inner.result ≡ span 0 (taken (arity node) (spelled rest)) = c.span_of-inner.ensures.exact ∙ ap (λ k. span 0 (taken k (spelled rest))) own in
    let first : c.extent_of-first.result ≡ extent (type_with node (spelled rest)) = c.extent_of-first.ensures.exact (spelled rest) f.enough inner in
    let step : IsStep node rest c.args.at c.round-start.result c.extent_of-first.result.bytes = record {
      starts = c.round-start.ensures.exact ∙ ap (λ (x : Extent). rounded c.args.at x.align) first;
      takes = ap (λ (x : Extent). x.bytes) first;
    } in
    let some : 1 ≤ c.args.parts = omega (arith, c.if-parts-eq0.false) in
    let i = c.in-Some-enter.inside in
    let en = c.in-Some-enter.ensures.some in
    let values = c.skip-values.result.now in
    let is : values ≡ behind i.skipped rest = c.skip-values.ensures in
    let spells : spelled values ≡ drop i.skipped (spelled rest) = ap spelled is ∙ spelled-behind i.skipped rest in
    let place : c.args.from + c.round-start.result + i.offset + 0 ≡ c.args.from + c.round-start.result + i.offset = omega arith in
    let good : c.lift_parts.result ≡ true = c.if-not-lift_parts.false in
    let left = few_inside node rest values i.skipped i.parts c.args.item.now c.enter.new.item c.lift_parts.new.item is en.within en.few (c.lift_parts.ensures.few good) in
    let more : c.skip-more.result.now ≡ behind (arity node) rest = c.skip-more.ensures ∙ ap (λ k. behind k rest) own in
    rw e (few_all node rest c.args.parts c.args.item.now c.lift_parts.new.item c.lift_parts-2.new.item some left (rw more at c.lift_parts-2.ensures.few all))
