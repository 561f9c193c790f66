use Rattle.std.proofs.Common.{length, ap, arith}
use Rattle.strm_codes.specs.Layout.{item_type}
use Rattle.strm_buffers.proofs.ListingLemmas.{lie_none}
use Rattle.strm_ready_ends.proofs.item_queues.ItemQueue.new.Goals as goal

pub invariant_of-result : goal.invariant_of-result
invariant_of-result c = record { all = omega (arith, ap length c.new.ensures.items); lie = (lie_none (item_type c.args.payload) c.new.result.items 0 (omega arith)).lie; few = omega arith }

pub returns-clause-items : goal.returns-clause-items
returns-clause-items c = (lie_none (item_type c.args.payload) c.new.result.items 0 (omega arith)).is
