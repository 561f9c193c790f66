use Rattle.std.proofs.Common.{arith}
use Rattle.strm_buffers.proofs.EndLemmas.{Fills-same}
use Rattle.strm_host.proofs.FutureLemmas.{one_at_most, stream_planned}
use Rattle.strm_host.proofs.futures.ProducerStreamProducer.TheImpl.Goals as goal

pub poll_produce-tells : goal.poll_produce-tells
poll_produce-tells g x x' c =
    let buffer = c.new.destination.0.now.buffer in
    record {
      fills = rw c.ensures.window (Fills-same c.args.destination.produced.now.window);
      few = rw (c.ensures.window, c.requires.fresh.nothing_marked) (omega (arith, one_at_most buffer));
      faults = c.ensures.faults;
      plan = rw (c.ensures.window, c.requires.fresh.nothing_marked)
          (stream_planned g.F.Item.Payloaded.item c.result buffer (g.F.FutureProducer.plan c.args.self.now.future) _ c.args.finish c.ensures.plan);
      leaves = c.ensures.leaves;
    }
