use Rattle.std.proofs.Common.{arith}
use Rattle.strm_codes.proofs.PaddedLemmas.{padded_new}
use Rattle.strm_machine.proofs.chunks.Chunk.new.Goals as goal

pub invariant_of-result : goal.invariant_of-result
invariant_of-result c = rw c.copy_from_slice.ensures.after (padded_new 64 0 c.args.bytes.now (omega arith))
