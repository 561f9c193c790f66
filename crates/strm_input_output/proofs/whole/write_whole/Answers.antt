use Rattle.std.proofs.Common.{arith}
use Rattle.strm_input_output.proofs.PortLemmas.{Appends-take}
use Rattle.strm_input_output.proofs.whole.write_whole.Goals as goal

pub loop-done-preserved : goal.loop-done-preserved
loop-done-preserved g c = record {
  within = omega (arith, c.in_ok-count.ensures.most);
  taken = Appends-take _ _ _ c.args.bytes.now c.loop-done.done c.in_ok-count.count c.loop-done.invariant.taken (rw c.split_at.ensures.back at c.in_ok-count.ensures.bytes);
  later = omega (arith, c.write.ensures.later);
}
