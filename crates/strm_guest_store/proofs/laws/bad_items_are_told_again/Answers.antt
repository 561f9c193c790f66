-- What is told of a bad item is a fact of the state.
use Rattle.strm_guest_store.proofs.OperateLemmas.{told_again}
use Rattle.strm_guest_store.proofs.laws.bad_items_are_told_again.Goals as goal

pub returns : goal.returns
returns c = told_again
