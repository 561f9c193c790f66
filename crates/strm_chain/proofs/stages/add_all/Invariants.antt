use Rattle.std.proofs.Common.{◌≡◌, take}
use Rattle.strm_chain.specs.Stages.{byte_sum}
use Rattle.strm_chain.proofs.stages.add_all.Given as goal

abbrev pub invariant-loop-byte : goal.invariant-loop-byte
invariant-loop-byte l = l.total ≡ byte_sum l.fn.sum (take l.byte-index l.bytes)
