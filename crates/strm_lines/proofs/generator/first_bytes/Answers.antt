use Rattle.std.proofs.Common.{◌∙◌, arith}
use Rattle.std.specs.List.{range_with_len}
use Rattle.std.proofs.lemmas.Grind.{get_or-set_at, same_number_lists, common_steps}
use Rattle.std.proofs.lemmas.List.FromFn.{length-range_with_len, get_or-range_with_len}
use Rattle.strm_lines.proofs.generator.first_bytes.Goals as goal

pub loop-k-preserved : goal.loop-k-preserved
loop-k-preserved c = record {
  long = grind (arith, common_steps);
  each = λ i h. grind (arith, common_steps, get_or-set_at);
}

pub returns : goal.returns
returns c =
    c.in-Some.ensures.value
    ∙ same_number_lists c.loop-k.bytes (range_with_len 0 64) (omega (arith, c.loop-k.invariant.long, length-range_with_len 0 64))
    (λ i h. c.loop-k.invariant.each i (omega (arith, c.loop-k.invariant.long, c.loop-k-test.false)) ∙ omega (arith, get_or-range_with_len 0 64 i 0 (omega (arith, c.loop-k.invariant.long))))
