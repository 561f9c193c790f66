-- The words of bytes, one after the other.
use Rattle.std.proofs.Common.{◌≡◌, ◌<◌, length, take, Some, sym, ap, ◌∙◌, arith}
use Rattle.std.proofs.lemmas.List.{length-set}
use Rattle.std.specs.Prelude.{option_and_then}
use Rattle.strm_c.specs.Payloads.{payload_of_nodes}
use Rattle.strm_c.proofs.PayloadLemmas.{bytes_all, bytes_wrong, bytes_first}
use Rattle.strm_c.proofs.payloads.built.Goals as goal

pub returns-in_default-clause-exact : goal.returns-in_default-clause-exact
returns-in_default-clause-exact c =
    ap (option_and_then payload_of_nodes) (sym (bytes_wrong c.loop-k.words c.loop-k.k c.args.bytes.now c.loop-k.invariant.0 c.loop-k-test.true (sym c.from_byte.ensures ∙ c.in_default.is)))

pub loop-k-preserved : goal.loop-k-preserved
loop-k-preserved c =
    let inside : c.loop-k.k < length c.loop-k.words = omega (arith, c.requires, c.loop-k-test.true, c.loop-k.invariant.1.0) in (
      bytes_first c.loop-k.words c.loop-k.k c.args.bytes.now c.loop-k.invariant.0 c.in-Some.word inside c.loop-k-test.true (sym c.from_byte.ensures ∙ c.in-Some.is),
      (length-set c.loop-k.words c.loop-k.k c.in-Some.word ∙ c.loop-k.invariant.1.0, omega (arith, c.loop-k-test.true)),
    )

pub returns-clause-exact : goal.returns-clause-exact
returns-clause-exact c =
    let whole : c.loop-k.k ≡ length c.args.bytes.now = omega (arith, c.loop-k-test.false, c.loop-k.invariant.1.1) in
    c.payload_of_nodes.ensures.exact
    ∙ ap (option_and_then payload_of_nodes) (ap (λ k. Some (take k c.loop-k.words)) (sym whole) ∙ sym (bytes_all c.loop-k.words c.loop-k.k c.args.bytes.now c.loop-k.invariant.0 (omega (arith, whole))))
