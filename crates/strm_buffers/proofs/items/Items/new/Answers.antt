use Rattle.std.proofs.Common.{length, arith, ap, ◌∙◌}
use Rattle.strm_codes.specs.Layout.{item_type}
use Rattle.strm_buffers.proofs.ListingLemmas.{lie_none}
use Rattle.strm_buffers.proofs.items.Items.new.Goals as goal

pub invariant_of-result : goal.invariant_of-result
invariant_of-result c = record { all = omega (arith, ap length (c.of_vec.ensures ∙ c.new.ensures.items)); lie = (lie_none (item_type c.args.payload) c.of_vec.result 0 (omega arith)).lie; few = omega arith }

pub returns-clause-items : goal.returns-clause-items
returns-clause-items c = (lie_none (item_type c.args.payload) c.of_vec.result 0 (omega arith)).is
