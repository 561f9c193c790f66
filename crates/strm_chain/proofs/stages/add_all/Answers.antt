use Rattle.std.proofs.Common.{◌+◌, refl, sym, ap, ◌∙◌, get_or}
use Rattle.std.specs.Prelude.{◌%◌}
use Rattle.strm_chain.proofs.StageLemmas.{byte_sum-none, byte_sum-more}
use Rattle.strm_chain.proofs.stages.add_all.Goals as goal

pub loop-byte-init : goal.loop-byte-init
loop-byte-init c = sym (byte_sum-none c.args.sum)

pub loop-byte-preserved : goal.loop-byte-preserved
loop-byte-preserved c =
    let x = get_or c.args.bytes.now c.loop-byte.byte-index 0 in
    c.add_one-total.ensures ∙ ap (λ t. (t + x) % 256) c.loop-byte.invariant
    ∙ sym (byte_sum-more c.args.sum c.args.bytes.now c.loop-byte.byte-index x 0 c.loop-byte-test.true refl)
