use Rattle.std.proofs.Common.{refl, arith}
use Rattle.strm_buffers.proofs.EndLemmas.{Fills-same}
use Rattle.strm_host.proofs.AnswerLemmas.{whatever_answered}
use Rattle.strm_host.proofs.empty.EmptyStreamProducer.TheImpl.Goals as goal

pub poll_produce-tells : goal.poll_produce-tells
poll_produce-tells g x x' c =
    record {
      fills = rw c.ensures.nothing (Fills-same c.args.destination.produced.now.window);
      few = rw (c.ensures.nothing, c.requires.fresh.nothing_marked, c.requires.nothing_buffered) (omega arith);
      faults = record { failed = rw c.ensures.turn (omega arith); least = omega arith };
      plan = rw (c.ensures.turn, c.ensures.nothing, c.requires.fresh.nothing_marked, c.requires.nothing_buffered) refl;
      leaves = whatever_answered c.result c.ensures.same;
    }
