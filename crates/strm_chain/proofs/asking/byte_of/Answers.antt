use Rattle.std.proofs.Common.{arith}
use Rattle.strm_chain.proofs.AskingLemmas.{byte_fits}
use Rattle.strm_chain.proofs.asking.byte_of.Goals as goal

-- src/asking.rt:29:10
pub overflow_cast-result : goal.overflow_cast-result
overflow_cast-result c = omega (arith, byte_fits c.args.word.now c.in_ok-number.number c.in_ok-number.ensures)
