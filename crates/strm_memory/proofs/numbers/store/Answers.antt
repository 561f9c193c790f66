use Rattle.std.proofs.Common.{◌∙◌, arith}
use Rattle.strm_memory.proofs.ByteLemmas.{store_more}
use Rattle.strm_memory.proofs.numbers.store.Goals as goal

pub loop-k-preserved : goal.loop-k-preserved
loop-k-preserved c =
    store_more c.loop-k.bytes c.args.at c.args.width c.loop-k.k c.loop-k.rest (omega arith) (omega arith) ∙ c.loop-k.invariant
