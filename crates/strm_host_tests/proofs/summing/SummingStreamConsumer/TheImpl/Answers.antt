use Rattle.std.proofs.Common.{refl, arith}
use Rattle.strm_host.proofs.AnswerLemmas.{whatever_answered, whatever_wanted}
use Rattle.strm_host_tests.proofs.ConsumerLemmas.{owes_all}
use Rattle.strm_host_tests.proofs.summing.SummingStreamConsumer.TheImpl.Goals as goal

pub poll_consume-tells : goal.poll_consume-tells
poll_consume-tells x c =
    let owes = owes_all c.args.source.offer.now c.new.source.0.now c.result c.requires.fresh.nothing_taken c.ensures.takes in
    record {
      same = owes.same;
      untaken = owes.untaken;
      faults = record { failed = owes.failed; least = omega arith };
      took = whatever_answered c.result refl;
      kept = whatever_wanted c.result refl;
      plan = owes.plan;
      leaves = whatever_answered c.result tt;
    }
