use Rattle.std.proofs.Common.{arith}
use Rattle.strm_transmit.proofs.KeptLemmas.{grown-push}
use Rattle.strm_transmit.proofs.store.hosting.grow.Goals as goal

pub loop-place-preserved : goal.loop-place-preserved
loop-place-preserved c = record {
  grown = rw c.in_ok-push.ensures.items (grown-push c.args.kept.now.items c.loop-place.kept.items c.new.result c.loop-place.invariant.grown c.new.ensures.items (omega (arith, c.loop-place.invariant.count, c.loop-place-test.true, c.requires.known)));
  count = omega (arith, c.in_ok-push.ensures.len, c.loop-place.invariant.count);
}
