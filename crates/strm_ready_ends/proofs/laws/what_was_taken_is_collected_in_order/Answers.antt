use Rattle.strm_ready_ends.proofs.OrderLemmas.{collected_in_order}
use Rattle.strm_ready_ends.proofs.laws.what_was_taken_is_collected_in_order.Goals as goal

pub returns : goal.returns
returns c queue calls = collected_in_order queue calls
