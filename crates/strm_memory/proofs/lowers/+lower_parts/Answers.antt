use Rattle.std.proofs.Common.{◌≡◌, ◌∷◌, ◌≤◌, ◌+◌, length-drop, length, ap, refl, ◌∙◌, arith, rules}
use Rattle.strm_codes.specs.ItemTypes.{rounded}
use Rattle.strm_codes.specs.Measures.{extent, span}
use Rattle.strm_codes.specs.Spellings.{arity, behind, spelled, taken, type_with}
use Rattle.strm_codes.specs.declared.measures.Extent.{Extent}
use Rattle.strm_codes.proofs.SpellingLemmas.{AreSpelled-behind, length-behind, spelled-behind}
use Rattle.strm_codes.proofs.MeasureLemmas.{IsFirst, first_is, left_behind}
use Rattle.strm_memory.proofs.StepLemmas.{IsStep, first_room}
use Rattle.strm_codes.proofs.SpellingLemmas.{none_spelled}
use Rattle.strm_memory.proofs.LowerLemmas.{nothing_lowered, nothing_left, begin_first, IsInside, inside_begins, inside_room, inside_stored, inside_left, length-item_on, others_begin, others_room, all_stored, all_left}
use Rattle.strm_memory.proofs.lowers.+lower_parts.Goals as goal

pub returns-then-parts-eq0-clause-stored : goal.returns-then-parts-eq0-clause-stored
returns-then-parts-eq0-clause-stored t c =
    nothing_lowered c.args.parts c.args.at (c.args.from + c.args.at) (spelled c.args.nodes.now) c.args.numbers.now c.args.bytes.now (omega (arith, c.if-parts-eq0.true))

pub returns-then-parts-eq0-clause-left : goal.returns-then-parts-eq0-clause-left
returns-then-parts-eq0-clause-left t c =
    nothing_left c.args.parts (spelled c.args.nodes.now) c.args.numbers.now (omega (arith, c.if-parts-eq0.true))

pub returns-in_default-clause-stored : goal.returns-in_default-clause-stored
returns-in_default-clause-stored t c =
    let e : length c.args.nodes.now ≡ 0 = search rules in
    nothing_lowered c.args.parts c.args.at (c.args.from + c.args.at) (spelled c.args.nodes.now) c.args.numbers.now c.args.bytes.now (omega (arith, c.requires.parts, none_spelled c.args.nodes.now e))

pub returns-in_default-clause-left : goal.returns-in_default-clause-left
returns-in_default-clause-left t c =
    let e : length c.args.nodes.now ≡ 0 = search rules in
    nothing_left c.args.parts (spelled c.args.nodes.now) c.args.numbers.now (omega (arith, c.requires.parts, none_spelled c.args.nodes.now e))

pub span_of-inner-requires-clause-spelled : goal.span_of-inner-requires-clause-spelled
span_of-inner-requires-clause-spelled t c =
    let node = c.in-Some.node.now in
    let rest = c.in-Some.rest.now in
    let e : c.args.nodes.now ≡ node ∷ rest = search rules in
    let f : IsFirst node rest = first_is node rest (rw e at c.requires.spelled) in
    f.behind

pub span_of-inner-requires-clause-parts : goal.span_of-inner-requires-clause-parts
span_of-inner-requires-clause-parts t c =
    let node = c.in-Some.node.now in
    let rest = c.in-Some.rest.now in
    let e : c.args.nodes.now ≡ node ∷ rest = search rules in
    let f : IsFirst node rest = first_is node rest (rw e at c.requires.spelled) in
    omega (arith, c.arity-own.ensures.exact, f.enough)

pub enter_lowered-entered-requires-clause-counted : goal.enter_lowered-entered-requires-clause-counted
enter_lowered-entered-requires-clause-counted t c =
    let node = c.in-Some.node.now in
    let rest = c.in-Some.rest.now in
    let e : c.args.nodes.now ≡ node ∷ rest = search rules in
    let f : IsFirst node rest = first_is node rest (rw e at c.requires.spelled) in
    f.counted

pub enter_lowered-entered-requires-clause-enough : goal.enter_lowered-entered-requires-clause-enough
enter_lowered-entered-requires-clause-enough t c =
    let node = c.in-Some.node.now in
    let rest = c.in-Some.rest.now in
    let e : c.args.nodes.now ≡ node ∷ rest = search rules in
    let f : IsFirst node rest = first_is node rest (rw e at c.requires.spelled) in
    f.enough

pub enter_lowered-entered-requires-clause-begins : goal.enter_lowered-entered-requires-clause-begins
enter_lowered-entered-requires-clause-begins t c =
    let node = c.in-Some.node.now in
    let rest = c.in-Some.rest.now in
    let e : c.args.nodes.now ≡ node ∷ rest = search rules in
    let f : IsFirst node rest = first_is node rest (rw e at c.requires.spelled) in
    let some : 1 ≤ c.args.parts = omega (arith, c.if-parts-eq0.false) in
    (begin_first node rest c.args.parts c.args.numbers.now some (rw e at c.requires.begins)).first

pub enter_lowered-entered-requires-clause-holds : goal.enter_lowered-entered-requires-clause-holds
enter_lowered-entered-requires-clause-holds t c =
    let node = c.in-Some.node.now in
    let rest = c.in-Some.rest.now in
    let e : c.args.nodes.now ≡ node ∷ rest = search rules in
    let f : IsFirst node rest = first_is node rest (rw e at c.requires.spelled) in
    let own : c.arity-own.result ≡ arity node = c.arity-own.ensures.exact in
    let inner : c.span_of-inner.result ≡ span 0 (taken (arity node) (spelled rest)) = c.span_of-inner.ensures.exact ∙ ap (λ k. span 0 (taken k (spelled rest))) own in
    let first : c.extent_of-first.result ≡ extent (type_with node (spelled rest)) = c.extent_of-first.ensures.exact (spelled rest) f.enough inner in
    let step : IsStep node rest c.args.at c.round-start.result c.extent_of-first.result.bytes = record {
      starts = c.round-start.ensures.exact ∙ ap (λ (x : Extent). rounded c.args.at x.align) first;
      takes = ap (λ (x : Extent). x.bytes) first;
    } in
    let some : 1 ≤ c.args.parts = omega (arith, c.if-parts-eq0.false) in
    omega (arith, rw e at c.requires.holds, first_room node rest c.args.parts c.args.at c.round-start.result c.extent_of-first.result.bytes some step, step.takes)

pub behind_numbers-own_left-requires : goal.behind_numbers-own_left-requires
behind_numbers-own_left-requires t c =
    c.enter_lowered-entered.ensures.entered.few

pub lower_parts-left-requires : goal.lower_parts-left-requires
lower_parts-left-requires t c =
    let node = c.in-Some.node.now in
    let rest = c.in-Some.rest.now in
    let e : c.args.nodes.now ≡ node ∷ rest = search rules in
    let f : IsFirst node rest = first_is node rest (rw e at c.requires.spelled) in
    let own : c.arity-own.result ≡ arity node = c.arity-own.ensures.exact in
    let inner : c.span_of-inner.result ≡ span 0 (taken (arity node) (spelled rest)) = c.span_of-inner.ensures.exact ∙ ap (λ k. span 0 (taken k (spelled rest))) own in
    let first : c.extent_of-first.result ≡ extent (type_with node (spelled rest)) = c.extent_of-first.ensures.exact (spelled rest) f.enough inner in
    let step : IsStep node rest c.args.at c.round-start.result c.extent_of-first.result.bytes = record {
      starts = c.round-start.ensures.exact ∙ ap (λ (x : Extent). rounded c.args.at x.align) first;
      takes = ap (λ (x : Extent). x.bytes) first;
    } in
    let some : 1 ≤ c.args.parts = omega (arith, c.if-parts-eq0.false) in
    let ins : IsInside node rest c.skip-values.result.now c.enter_lowered-entered.result.inside c.enter_lowered-entered.result.numbers c.args.numbers.now c.behind_numbers-own_left.result.now (c.args.from + c.round-start.result) c.args.bytes.now c.enter_lowered-entered.new.bytes = record { entry = c.enter_lowered-entered.ensures.entered; words = c.skip-values.ensures; numbers_left = c.behind_numbers-own_left.ensures } in
    let i = c.enter_lowered-entered.result.inside in
    let within = c.enter_lowered-entered.ensures.within in
    let is = c.skip-values.ensures in
    let shorter : length (behind i.skipped rest) ≤ length rest = length-behind i.skipped rest in
    let whole : length c.args.nodes.now ≡ length rest + 1 = rw e (omega arith) in
    let fewer : i.skipped + i.parts ≤ length (spelled rest) = omega (arith, within, f.enough) in
    let most : i.parts ≤ 255 = omega (arith, within, own, c.arity-own.ensures.most) in (
      search (rules, is, shorter, whole),
      (
        rw is (AreSpelled-behind i.skipped rest f.behind),
        (
          rw (is, spelled-behind i.skipped rest, length-drop) (omega (arith, fewer)),
          (
            most,
            (
              rw is (omega (arith, shorter, whole, c.requires.few)),
              (
                omega (arith, most),
                (
                  inside_begins node rest c.skip-values.result.now c.enter_lowered-entered.result.inside c.enter_lowered-entered.result.numbers c.args.numbers.now c.behind_numbers-own_left.result.now (c.args.from + c.round-start.result) c.args.bytes.now c.enter_lowered-entered.new.bytes ins,
                  inside_room node rest c.skip-values.result.now c.enter_lowered-entered.result.inside c.enter_lowered-entered.result.numbers c.args.numbers.now c.behind_numbers-own_left.result.now (c.args.from + c.round-start.result) c.args.bytes.now c.enter_lowered-entered.new.bytes ins (c.args.from + c.round-start.result) (omega (arith, step.takes, first_room node rest c.args.parts c.args.at c.round-start.result c.extent_of-first.result.bytes some step, rw e at c.requires.holds)) refl,
                ),
              ),
            ),
          ),
        ),
      ),
    )

pub overflow_add-start : goal.overflow_add-start
overflow_add-start t c =
    let node = c.in-Some.node.now in
    let rest = c.in-Some.rest.now in
    let e : c.args.nodes.now ≡ node ∷ rest = search rules in
    let f : IsFirst node rest = first_is node rest (rw e at c.requires.spelled) in
    let own : c.arity-own.result ≡ arity node = c.arity-own.ensures.exact in
    let inner : c.span_of-inner.result ≡ span 0 (taken (arity node) (spelled rest)) = c.span_of-inner.ensures.exact ∙ ap (λ k. span 0 (taken k (spelled rest))) own in
    let first : c.extent_of-first.result ≡ extent (type_with node (spelled rest)) = c.extent_of-first.ensures.exact (spelled rest) f.enough inner in
    let step : IsStep node rest c.args.at c.round-start.result c.extent_of-first.result.bytes = record {
      starts = c.round-start.ensures.exact ∙ ap (λ (x : Extent). rounded c.args.at x.align) first;
      takes = ap (λ (x : Extent). x.bytes) first;
    } in
    let some : 1 ≤ c.args.parts = omega (arith, c.if-parts-eq0.false) in
    search (rules, step.takes, f.small, c.round-start.ensures.near, c.requires.small)

pub lower_parts-requires : goal.lower_parts-requires
lower_parts-requires t c =
    let node = c.in-Some.node.now in
    let rest = c.in-Some.rest.now in
    let e : c.args.nodes.now ≡ node ∷ rest = search rules in
    let f : IsFirst node rest = first_is node rest (rw e at c.requires.spelled) in
    let own : c.arity-own.result ≡ arity node = c.arity-own.ensures.exact in
    let inner : c.span_of-inner.result ≡ span 0 (taken (arity node) (spelled rest)) = c.span_of-inner.ensures.exact ∙ ap (λ k. span 0 (taken k (spelled rest))) own in
    let first : c.extent_of-first.result ≡ extent (type_with node (spelled rest)) = c.extent_of-first.ensures.exact (spelled rest) f.enough inner in
    let step : IsStep node rest c.args.at c.round-start.result c.extent_of-first.result.bytes = record {
      starts = c.round-start.ensures.exact ∙ ap (λ (x : Extent). rounded c.args.at x.align) first;
      takes = ap (λ (x : Extent). x.bytes) first;
    } in
    let some : 1 ≤ c.args.parts = omega (arith, c.if-parts-eq0.false) in
    let ins : IsInside node rest c.skip-values.result.now c.enter_lowered-entered.result.inside c.enter_lowered-entered.result.numbers c.args.numbers.now c.behind_numbers-own_left.result.now (c.args.from + c.round-start.result) c.args.bytes.now c.enter_lowered-entered.new.bytes = record { entry = c.enter_lowered-entered.ensures.entered; words = c.skip-values.ensures; numbers_left = c.behind_numbers-own_left.ensures } in
    let mid = inside_stored node rest c.skip-values.result.now c.enter_lowered-entered.result.inside c.enter_lowered-entered.result.numbers c.args.numbers.now c.behind_numbers-own_left.result.now (c.args.from + c.round-start.result) c.args.bytes.now c.enter_lowered-entered.new.bytes ins c.lower_parts-left.new.bytes c.lower_parts-left.ensures.stored in
    let leftover = inside_left node rest c.skip-values.result.now c.enter_lowered-entered.result.inside c.enter_lowered-entered.result.numbers c.args.numbers.now c.behind_numbers-own_left.result.now (c.args.from + c.round-start.result) c.args.bytes.now c.enter_lowered-entered.new.bytes ins c.lower_parts-left.result.now c.lower_parts-left.ensures.left in
    let more : c.skip-more.result.now ≡ behind (arity node) rest = c.skip-more.ensures ∙ ap (λ k. behind k rest) own in
    let long = length-item_on (type_with node (spelled rest)) c.args.numbers.now (c.args.from + c.round-start.result) c.args.bytes.now c.lower_parts-left.new.bytes mid (omega (arith, step.takes, first_room node rest c.args.parts c.args.at c.round-start.result c.extent_of-first.result.bytes some step, rw e at c.requires.holds)) in
    let shorter : length (behind (arity node) rest) ≤ length rest = length-behind (arity node) rest in
    let whole : length c.args.nodes.now ≡ length rest + 1 = rw e (omega arith) in
    let begins = begin_first node rest c.args.parts c.args.numbers.now some (rw e at c.requires.begins) in (
      search (rules, more, shorter, whole),
      (
        rw more (AreSpelled-behind (arity node) rest f.behind),
        (
          rw more (left_behind node rest c.args.parts (rw e at c.requires.spelled) (rw e at c.requires.parts)),
          (
            omega (arith, c.requires.most),
            (
              rw more (omega (arith, shorter, whole, c.requires.few)),
              (
                omega (arith, c.round-start.ensures.near, step.takes, f.small, c.requires.small, c.if-parts-eq0.false),
                (
                  others_begin node rest c.args.nodes.now c.skip-more.result.now c.args.parts c.args.at c.args.from c.round-start.result c.extent_of-first.result.bytes c.args.numbers.now c.lower_parts-left.result.now c.args.bytes.now c.lower_parts-left.new.bytes e some step more leftover begins,
                  others_room node rest c.args.nodes.now c.skip-more.result.now c.args.parts c.args.at c.args.from c.round-start.result c.extent_of-first.result.bytes c.args.numbers.now c.lower_parts-left.result.now c.args.bytes.now c.lower_parts-left.new.bytes e some step more leftover c.requires.holds long,
                ),
              ),
            ),
          ),
        ),
      ),
    )

pub returns-clause-stored : goal.returns-clause-stored
returns-clause-stored t c =
    let node = c.in-Some.node.now in
    let rest = c.in-Some.rest.now in
    let e : c.args.nodes.now ≡ node ∷ rest = search rules in
    let f : IsFirst node rest = first_is node rest (rw e at c.requires.spelled) in
    let own : c.arity-own.result ≡ arity node = c.arity-own.ensures.exact in
    let inner : c.span_of-inner.result ≡ span 0 (taken (arity node) (spelled rest)) = c.span_of-inner.ensures.exact ∙ ap (λ k. span 0 (taken k (spelled rest))) own in
    let first : c.extent_of-first.result ≡ extent (type_with node (spelled rest)) = c.extent_of-first.ensures.exact (spelled rest) f.enough inner in
    let step : IsStep node rest c.args.at c.round-start.result c.extent_of-first.result.bytes = record {
      starts = c.round-start.ensures.exact ∙ ap (λ (x : Extent). rounded c.args.at x.align) first;
      takes = ap (λ (x : Extent). x.bytes) first;
    } in
    let some : 1 ≤ c.args.parts = omega (arith, c.if-parts-eq0.false) in
    let ins : IsInside node rest c.skip-values.result.now c.enter_lowered-entered.result.inside c.enter_lowered-entered.result.numbers c.args.numbers.now c.behind_numbers-own_left.result.now (c.args.from + c.round-start.result) c.args.bytes.now c.enter_lowered-entered.new.bytes = record { entry = c.enter_lowered-entered.ensures.entered; words = c.skip-values.ensures; numbers_left = c.behind_numbers-own_left.ensures } in
    let mid = inside_stored node rest c.skip-values.result.now c.enter_lowered-entered.result.inside c.enter_lowered-entered.result.numbers c.args.numbers.now c.behind_numbers-own_left.result.now (c.args.from + c.round-start.result) c.args.bytes.now c.enter_lowered-entered.new.bytes ins c.lower_parts-left.new.bytes c.lower_parts-left.ensures.stored in
    let leftover = inside_left node rest c.skip-values.result.now c.enter_lowered-entered.result.inside c.enter_lowered-entered.result.numbers c.args.numbers.now c.behind_numbers-own_left.result.now (c.args.from + c.round-start.result) c.args.bytes.now c.enter_lowered-entered.new.bytes ins c.lower_parts-left.result.now c.lower_parts-left.ensures.left in
    let more : c.skip-more.result.now ≡ behind (arity node) rest = c.skip-more.ensures ∙ ap (λ k. behind k rest) own in
    all_stored node rest c.args.nodes.now c.skip-more.result.now c.args.parts c.args.at c.args.from c.round-start.result c.extent_of-first.result.bytes c.args.numbers.now c.lower_parts-left.result.now c.args.bytes.now c.lower_parts-left.new.bytes e some step more leftover c.lower_parts.new.bytes c.requires.holds mid c.lower_parts.ensures.stored

pub returns-clause-left : goal.returns-clause-left
returns-clause-left t c =
    let node = c.in-Some.node.now in
    let rest = c.in-Some.rest.now in
    let e : c.args.nodes.now ≡ node ∷ rest = search rules in
    let f : IsFirst node rest = first_is node rest (rw e at c.requires.spelled) in
    let own : c.arity-own.result ≡ arity node = c.arity-own.ensures.exact in
    let inner : c.span_of-inner.result ≡ span 0 (taken (arity node) (spelled rest)) = c.span_of-inner.ensures.exact ∙ ap (λ k. span 0 (taken k (spelled rest))) own in
    let first : c.extent_of-first.result ≡ extent (type_with node (spelled rest)) = c.extent_of-first.ensures.exact (spelled rest) f.enough inner in
    let step : IsStep node rest c.args.at c.round-start.result c.extent_of-first.result.bytes = record {
      starts = c.round-start.ensures.exact ∙ ap (λ (x : Extent). rounded c.args.at x.align) first;
      takes = ap (λ (x : Extent). x.bytes) first;
    } in
    let some : 1 ≤ c.args.parts = omega (arith, c.if-parts-eq0.false) in
    let ins : IsInside node rest c.skip-values.result.now c.enter_lowered-entered.result.inside c.enter_lowered-entered.result.numbers c.args.numbers.now c.behind_numbers-own_left.result.now (c.args.from + c.round-start.result) c.args.bytes.now c.enter_lowered-entered.new.bytes = record { entry = c.enter_lowered-entered.ensures.entered; words = c.skip-values.ensures; numbers_left = c.behind_numbers-own_left.ensures } in
    let leftover = inside_left node rest c.skip-values.result.now c.enter_lowered-entered.result.inside c.enter_lowered-entered.result.numbers c.args.numbers.now c.behind_numbers-own_left.result.now (c.args.from + c.round-start.result) c.args.bytes.now c.enter_lowered-entered.new.bytes ins c.lower_parts-left.result.now c.lower_parts-left.ensures.left in
    let more : c.skip-more.result.now ≡ behind (arity node) rest = c.skip-more.ensures ∙ ap (λ k. behind k rest) own in
    all_left node rest c.args.nodes.now c.skip-more.result.now c.args.parts c.args.at c.args.from c.round-start.result c.extent_of-first.result.bytes c.args.numbers.now c.lower_parts-left.result.now c.args.bytes.now c.lower_parts-left.new.bytes e some step more leftover c.lower_parts.result.now c.lower_parts.ensures.left
