use Rattle.std.proofs.Common.{◌≡◌, ◌≤◌, ◌∷◌, ◌++◌, [], length, ap, refl, ◌∙◌, arith}
use Rattle.strm_codes.specs.ItemTypes.{most_align}
use Rattle.strm_codes.specs.Measures.{span}
use Rattle.strm_codes.specs.Spellings.{taken, spelled, unit}
use Rattle.strm_codes.specs.declared.measures.Span.{Span}
use Rattle.std.proofs.lemmas.Int.{to_z-of_z, ints}
use Rattle.std.specs.Int.{w128}
use Rattle.std.specs.Option.{option_map}
use mir.Val.{SFits}
use Rattle.strm_memory.proofs.WalkLemmas.{not_some, enters_result, enters_cases, enters_nothing, enters_plain, plain_is_none, enters_flags, enters_enum, enum_is_none, variant_is_none, enters_option, enters_tuple}
use Rattle.strm_memory.proofs.lifts.enter.Goals as goal

pub returns-in_default-clause-none : goal.returns-in_default-clause-none
returns-in_default-clause-none c e =
    rw c.in-Enum.is (enum_is_none c.in-Enum.cases c.args.bytes.now c.args.from (omega arith) (omega (arith, c.lift_case.ensures.none (not_some c.lift_case.result c.in_default.not-Some), c.from.ensures)))

pub returns-in_default-lift_case-clause-none : goal.returns-in_default-lift_case-clause-none
returns-in_default-lift_case-clause-none c e =
    let few : 1 ≤ length (spelled c.args.rest.now) = rw c.in-Option.is at c.requires.enough in
    rw c.in-Option.is (variant_is_none 2 (unit ∷ spelled c.args.rest.now) c.args.bytes.now c.args.from (omega arith) (omega (arith, few)) (c.lift_case-in-Option.ensures.none (not_some c.lift_case-in-Option.result c.in_default-lift_case.not-Some)))

pub returns-in-Nothing-clause-some : goal.returns-in-Nothing-clause-some
returns-in-Nothing-clause-some c = rw c.in-Nothing.is (enters_nothing (spelled c.args.rest.now) c.args.bytes.now c.args.from c.args.item.now)

pub returns-then-put_number-clause-some : goal.returns-then-put_number-clause-some
returns-then-put_number-clause-some c =
    rw c.in-Plain.is (enters_plain c.in-Plain.scalar (spelled c.args.rest.now) c.args.bytes.now c.args.from c.args.item.now c.put_number.new.item ((rw c.if-put_number.true at c.put_number.ensures) ∙ ap (λ o. option_map (λ x. c.args.item.now ++ x ∷ []) o) c.lift_field.ensures.exact))

pub returns-else-put_number-clause-none : goal.returns-else-put_number-clause-none
returns-else-put_number-clause-none c e =
    rw c.in-Plain.is (plain_is_none c.in-Plain.scalar (spelled c.args.rest.now) c.args.bytes.now c.args.from c.args.item.now ((rw c.if-put_number.false at c.put_number.ensures) ∙ ap (λ o. option_map (λ x. c.args.item.now ++ x ∷ []) o) c.lift_field.ensures.exact))

pub returns-in-Flags-clause-some : goal.returns-in-Flags-clause-some
returns-in-Flags-clause-some c =
    let x = c.flags_at.result in
    let wide : SFits w128 x = record { sfits = omega (arith, ints, c.flags_at.ensures.range) } in
    let put : c.push.new.self ≡ c.args.item.now ++ x ∷ [] = rw (c.push.ensures, to_z-of_z w128 x wide) refl in
    rw c.in-Flags.is (enters_flags c.in-Flags.flags (spelled c.args.rest.now) c.args.bytes.now c.args.from c.args.item.now c.push.new.self (put ∙ ap (λ y. c.args.item.now ++ y ∷ []) c.flags_at.ensures.exact))

pub returns-in-Some-clause-some : goal.returns-in-Some-clause-some
returns-in-Some-clause-some c =
    rw c.in-Enum.is (enters_enum c.in-Enum.cases (spelled c.args.rest.now) c.args.bytes.now c.args.from c.in-Some.field-0 c.args.item.now c.lift_case.new.item (omega arith) (omega (arith, c.in-Some.ensures.case, c.from.ensures)) c.in-Some.ensures.some c.in-Some.ensures.put)

pub returns-in-Some-lift_case-clause-some : goal.returns-in-Some-lift_case-clause-some
returns-in-Some-lift_case-clause-some c =
    let ts = spelled c.args.rest.now in
    let few : 1 ≤ length ts = rw c.in-Option.is at c.requires.enough in
    let inner : c.args.inner ≡ span 0 (taken 1 ts) = rw c.in-Option.is at c.requires.inner in
    let align : c.args.inner.align ≡ most_align (taken 1 ts) = ap (λ (s : Span). s.align) inner in
    rw (c.in-Option.is, c.round.ensures.exact)
    (enters_option ts c.args.bytes.now c.args.from c.args.inner.align c.in-Some-lift_case.case c.args.item.now c.lift_case-in-Option.new.item few c.requires.some align c.in-Some-lift_case.ensures.case c.in-Some-lift_case.ensures.some c.in-Some-lift_case.ensures.put)

pub returns-in-Result-clause-none : goal.returns-in-Result-clause-none
returns-in-Result-clause-none c e =
    let few : 2 ≤ length (spelled c.args.rest.now) = rw c.in-Result.is at c.requires.enough in
    rw c.in-Result.is (variant_is_none 2 (spelled c.args.rest.now) c.args.bytes.now c.args.from (omega arith) few (c.enter_variant.ensures.none e))

pub returns-in-Result-clause-some : goal.returns-in-Result-clause-some
returns-in-Result-clause-some c =
    let ts = spelled c.args.rest.now in
    let few : 2 ≤ length ts = rw c.in-Result.is at c.requires.enough in
    let inner : c.args.inner ≡ span 0 (taken 2 ts) = rw c.in-Result.is at c.requires.inner in
    let v = c.enter_variant.ensures in
    rw c.in-Result.is (enters_result c.enter_variant.result ts c.args.bytes.now c.args.from c.args.inner.align c.args.item.now c.enter_variant.new.item few (ap (λ (s : Span). s.align) inner) v.some v.case v.put)

pub returns-in-Tuple-clause-some : goal.returns-in-Tuple-clause-some
returns-in-Tuple-clause-some c = rw (c.in-Tuple.is, c.from-in-Tuple.ensures) (enters_tuple c.in-Tuple.fields (spelled c.args.rest.now) c.args.bytes.now c.args.from c.args.item.now)

pub returns-in-Variant-clause-none : goal.returns-in-Variant-clause-none
returns-in-Variant-clause-none c e =
    let few : c.in-Variant.cases ≤ length (spelled c.args.rest.now) = rw c.in-Variant.is at c.requires.enough in
    rw c.in-Variant.is (variant_is_none c.in-Variant.cases (spelled c.args.rest.now) c.args.bytes.now c.args.from (omega arith) few (omega (arith, c.enter_variant-in-Variant.ensures.none e, c.from-in-Variant.ensures)))

pub returns-in-Variant-clause-some : goal.returns-in-Variant-clause-some
returns-in-Variant-clause-some c =
    let ts = spelled c.args.rest.now in
    let n = c.in-Variant.cases in
    let few : n ≤ length ts = rw c.in-Variant.is at c.requires.enough in
    let inner : c.args.inner ≡ span 0 (taken n ts) = rw c.in-Variant.is at c.requires.inner in
    let v = c.enter_variant-in-Variant.ensures in
    rw c.in-Variant.is (enters_cases n c.enter_variant-in-Variant.result ts c.args.bytes.now c.args.from c.args.inner.align c.args.item.now c.enter_variant-in-Variant.new.item (omega arith) few (ap (λ (s : Span). s.align) inner) v.some (rw c.from-in-Variant.ensures at v.case) v.put)
