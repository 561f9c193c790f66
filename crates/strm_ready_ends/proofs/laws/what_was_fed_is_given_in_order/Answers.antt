use Rattle.strm_ready_ends.proofs.OrderLemmas.{given_in_order}
use Rattle.strm_ready_ends.proofs.laws.what_was_fed_is_given_in_order.Goals as goal

pub returns : goal.returns
returns c queue calls = given_in_order queue calls
