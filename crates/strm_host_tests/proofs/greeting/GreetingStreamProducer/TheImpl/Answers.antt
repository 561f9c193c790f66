use Rattle.std.proofs.Common.{arith}
use Rattle.strm_host.proofs.AnswerLemmas.{whatever_answered}
use Rattle.strm_host_tests.proofs.GreetingLemmas.{greets_fills, few_greeted, never_failed}
use Rattle.strm_host_tests.proofs.greeting.GreetingStreamProducer.TheImpl.Goals as goal

pub poll_produce-tells : goal.poll_produce-tells
poll_produce-tells x x' c =
    let old = c.args.destination.produced.now.window in
    let new = c.new.destination.0.now.window in
    record {
      fills = greets_fills old new c.ensures.greets;
      few = omega (arith, few_greeted old new c.ensures.greets c.requires.fresh.nothing_marked, c.ensures.few);
      faults = record { failed = never_failed c.result c.ensures.turn; least = omega arith };
      plan = tt;
      leaves = whatever_answered c.result tt;
    }
