use Rattle.std.proofs.Common.{refl, arith}
use Rattle.strm_host.proofs.AnswerLemmas.{whatever_polled}
use Rattle.strm_host_tests.proofs.ConsumerLemmas.{never_wants, never_fails}
use Rattle.strm_host_tests.proofs.awaited.AwaitedFutureConsumer.TheImpl.Goals as goal

pub poll_consume-tells : goal.poll_consume-tells
poll_consume-tells x c = record {
  same = rw c.ensures.takes (record { payload = refl; source = refl; since = refl });
  untaken = never_wants _ c.result c.ensures.turn;
  later = omega arith;
  failed = never_fails _ c.result c.ensures.turn;
  took = whatever_polled c.result refl;
  kept = never_wants _ c.result c.ensures.turn;
  planned = tt;
  leaves = whatever_polled c.result tt;
}
