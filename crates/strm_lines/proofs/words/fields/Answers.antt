use Rattle.std.proofs.Common.{◌≡◌, ◌∙◌, ◌+◌, ◌-◌, List, length, take, Option, Some, None, IsSome, IfSome, slice_set, sym, ap, arith, length-set, length-take-le}
use Rattle.std.proofs.lemmas.List.{take_more_set}
use Rattle.strm_codes.specs.declared.scalars.Scalar.{Scalar}
use Rattle.strm_lines.proofs.TypeLemmas.{fields-none, fields-last, fields-bad, fields-more}
use Rattle.strm_lines.proofs.words.fields.Goals as goal

pub returns-in_default-scalar : goal.returns-in_default-scalar
returns-in_default-scalar c =
    let k = c.loop-k.k in
    sym (fields-last (8 - k) c.loop-k.rest.now (take k c.loop-k.scalars) None (omega arith) c.in_default.ensures c.in_default-scalar.ensures) ∙ c.loop-k.invariant.rest

-- the shape of these fields, if it can have them
made : (o : Option (List Scalar)) (fields : List Scalar) → IsSome o → IfSome o (λ shape. shape ≡ fields) → o ≡ Some fields
made None fields can is = cc
made (Some shape) fields can is = ap Some is

pub returns-in_default : goal.returns-in_default
returns-in_default c =
    let k = c.loop-k.k in
    let scalars = c.loop-k.scalars in
    let last = c.in-Some-scalar.last in
    let more = take_more_set scalars k last (omega (arith, c.loop-k.invariant.whole)) in
    let all : length (slice_set scalars k last) ≡ 8 = length-set scalars k last ∙ c.loop-k.invariant.whole in
    let len : length (take (k + 1) (slice_set scalars k last)) ≡ k + 1 = length-take-le (k + 1) (slice_set scalars k last) (omega (arith, all)) in
    made c.new.result (take (k + 1) (slice_set scalars k last)) (c.new.ensures.some.1 (omega (arith, len), omega (arith, len))) c.new.ensures.value
    ∙ ap Some more
    ∙ sym (fields-last (8 - k) c.loop-k.rest.now (take k scalars) (Some last) (omega arith) c.in_default.ensures c.in-Some-scalar.ensures) ∙ c.loop-k.invariant.rest

pub returns-in_default-scalar-2 : goal.returns-in_default-scalar-2
returns-in_default-scalar-2 c =
    let k = c.loop-k.k in
    sym (fields-bad (8 - k) c.loop-k.rest.now (take k c.loop-k.scalars) (c.in-Some.first.now, c.in-Some.after.now) c.in-Some.ensures c.in_default-scalar-2.ensures) ∙ c.loop-k.invariant.rest

pub loop-k-preserved : goal.loop-k-preserved
loop-k-preserved c =
    let k = c.loop-k.k in
    let scalars = c.loop-k.scalars in
    let field = c.in-Some-scalar-2.field in
    record {
      whole = length-set scalars k field ∙ c.loop-k.invariant.whole;
      rest =
          rw (take_more_set scalars k field (omega (arith, c.loop-k.invariant.whole)))
          (fields-more (8 - k) (8 - (k + 1)) c.loop-k.rest.now (take k scalars) (c.in-Some.first.now, c.in-Some.after.now) field (omega arith) c.in-Some.ensures c.in-Some-scalar-2.ensures)
          ∙ c.loop-k.invariant.rest;
    }

pub returns : goal.returns
returns c = sym (fields-none (8 - c.loop-k.k) c.loop-k.rest.now (take c.loop-k.k c.loop-k.scalars) (omega (arith, c.loop-k-test.false))) ∙ c.loop-k.invariant.rest
