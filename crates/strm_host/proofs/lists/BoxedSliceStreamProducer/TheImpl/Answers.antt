use Rattle.std.proofs.Common.{arith}
use Rattle.std.specs.Box.{boxed_slice_items}
use Rattle.strm_buffers.proofs.EndLemmas.{Fills-same}
use Rattle.strm_host.proofs.AnswerLemmas.{whatever_answered}
use Rattle.strm_host.proofs.ListLemmas.{few_given, failed_aloud, more_faults, as_planned}
use Rattle.strm_host.proofs.lists.BoxedSliceStreamProducer.TheImpl.Goals as goal

pub poll_produce-tells : goal.poll_produce-tells
poll_produce-tells g x x' c =
    let items = boxed_slice_items c.args.self.now in
    record {
      fills = rw c.ensures.window (Fills-same c.args.destination.produced.now.window);
      few = rw (c.ensures.window, c.requires.fresh.nothing_marked, c.ensures.given) (omega (arith, few_given items));
      faults = record { failed = rw (c.ensures.turn, c.ensures.kept) (failed_aloud items); least = rw c.ensures.kept (more_faults items) };
      plan = rw (c.ensures.turn, c.ensures.window, c.requires.fresh.nothing_marked, c.ensures.given) (as_planned items g.T.Payloaded.item);
      leaves = whatever_answered c.result c.ensures.kept;
    }
