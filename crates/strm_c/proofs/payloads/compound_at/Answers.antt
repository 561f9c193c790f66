-- The words of a number, one after the other.
use Rattle.std.proofs.Common.{◌≡◌, ◌≤◌, ◌<◌, length, take, Some, refl, sym, ap, ◌∙◌, arith}
use Rattle.std.proofs.lemmas.List.{length-set}
use Rattle.std.proofs.Math.Seq.{take-length}
use Rattle.strm_codes.specs.NodeBytes.{node_of_byte}
use Rattle.strm_c.specs.Payloads.{nodes_at, compound_with}
use Rattle.strm_c.proofs.PayloadLemmas.{joined-none, found_all, found_wrong, found_past, found_first}
use Rattle.strm_c.proofs.payloads.compound_at.Goals as goal

pub loop-k-init : goal.loop-k-init
loop-k-init c = (joined-none (nodes_at 7 c.args.bytes), (refl, omega arith))

pub returns-then-rest-eq0 : goal.returns-then-rest-eq0
returns-then-rest-eq0 c =
    c.compound_of.ensures ∙ ap compound_with (sym (found_all 256 node_of_byte 7 c.loop-k.words c.loop-k.k c.loop-k.rest c.args.bytes c.loop-k.invariant.0 c.if-rest-eq0.true))

pub returns-in_default : goal.returns-in_default
returns-in_default c =
    ap compound_with (sym (found_wrong 256 node_of_byte 7 c.loop-k.words c.loop-k.k c.loop-k.rest c.args.bytes c.loop-k.invariant.0 c.loop-k-test.true c.if-rest-eq0.false (sym c.from_byte.ensures ∙ c.in_default.is)))

pub loop-k-preserved : goal.loop-k-preserved
loop-k-preserved c =
    let inside : c.loop-k.k < length c.loop-k.words = omega (arith, c.loop-k-test.true, c.loop-k.invariant.1.0) in (
      found_first 256 node_of_byte 7 c.loop-k.words c.loop-k.k c.loop-k.rest c.args.bytes c.loop-k.invariant.0 c.in-Some.word inside c.loop-k-test.true c.if-rest-eq0.false (sym c.from_byte.ensures ∙ c.in-Some.is),
      (length-set c.loop-k.words c.loop-k.k c.in-Some.word ∙ c.loop-k.invariant.1.0, omega (arith, c.loop-k-test.true)),
    )

pub returns-then-rest-eq0-2 : goal.returns-then-rest-eq0-2
returns-then-rest-eq0-2 c =
    let whole : c.loop-k.k ≡ 7 = omega (arith, c.loop-k-test.false, c.loop-k.invariant.1.1) in
    c.compound_of-then-rest-eq0-2.ensures
    ∙ ap compound_with (sym (found_all 256 node_of_byte 7 c.loop-k.words c.loop-k.k c.loop-k.rest c.args.bytes c.loop-k.invariant.0 c.if-rest-eq0-2.true
    ∙ ap (λ k. Some (take k c.loop-k.words)) (whole ∙ sym c.loop-k.invariant.1.0) ∙ ap Some (take-length c.loop-k.words)))

pub returns-else-rest-eq0-2 : goal.returns-else-rest-eq0-2
returns-else-rest-eq0-2 c =
    let past : 7 ≤ c.loop-k.k = omega (arith, c.loop-k-test.false) in
    ap compound_with (sym (found_past 256 node_of_byte 7 c.loop-k.words c.loop-k.k c.loop-k.rest c.args.bytes c.loop-k.invariant.0 past c.if-rest-eq0-2.false))
