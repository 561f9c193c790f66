use Rattle.std.proofs.Common.{refl, arith}
use Rattle.strm_host.proofs.OfferingLemmas.{taken_first}
use Rattle.strm_host_tests.proofs.latest.LatestStreamConsumer.TheImpl.Goals as goal

pub poll_consume-tells : goal.poll_consume-tells
poll_consume-tells x c =
    let old = c.args.source.offer.now in
    record {
      same = rw c.ensures.takes (record { payload = refl; source = refl; since = refl });
      untaken = rw c.ensures.turn tt;
      faults = record { failed = rw c.ensures.turn (omega arith); least = omega arith };
      took = rw c.ensures.turn refl;
      kept = rw c.ensures.turn tt;
      plan = rw (c.ensures.turn, c.ensures.takes, taken_first old 1 c.requires.fresh.nothing_taken) refl;
      leaves = rw c.ensures.turn tt;
    }
