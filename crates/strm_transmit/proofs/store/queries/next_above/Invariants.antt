use Rattle.strm_transmit.proofs.QueryLemmas.{AreFreeUpTo}
use Rattle.strm_transmit.proofs.store.queries.next_above.Given as goal

abbrev pub invariant-loop-index : goal.invariant-loop-index
invariant-loop-index l = AreFreeUpTo l.table.handles l.after l.index
