use Rattle.std.proofs.Common.{arith}
use Rattle.strm_buffers.proofs.EndLemmas.{Fills-same}
use Rattle.strm_host.proofs.AnswerLemmas.{whatever_answered}
use Rattle.strm_host_tests.proofs.CountdownLemmas.{few_given, never_failed, as_planned}
use Rattle.strm_host_tests.proofs.countdown.CountdownStreamProducer.TheImpl.Goals as goal

pub poll_produce-tells : goal.poll_produce-tells
poll_produce-tells x x' c =
    record {
      fills = rw c.ensures.window (Fills-same c.args.destination.produced.now.window);
      few = rw (c.ensures.window, c.requires.fresh.nothing_marked, c.ensures.buffer) (omega (arith, few_given c.args.self.now.left));
      faults = record { failed = rw c.ensures.turn (never_failed c.args.self.now.left); least = omega arith };
      plan = rw (c.ensures.turn, c.ensures.window, c.requires.fresh.nothing_marked, c.ensures.buffer) (as_planned c.args.self.now.left);
      leaves = whatever_answered c.result c.ensures.left;
    }
