use Rattle.std.proofs.Common.{sym, ◌∙◌}
use Rattle.strm_machine.specs.State.{memory_in}
use Rattle.strm_transmit.proofs.BadItemLemmas.{nothing_there}
use Rattle.strm_transmit.proofs.store.Store.first_bad_of.Goals as goal

pub returns-then-size-eq0-clause-none : goal.returns-then-size-eq0-clause-none
returns-then-size-eq0-clause-none c = λ n.
    nothing_there c.args.payload.now (memory_in c.args.self.now.guests c.args.write.now.guest) c.args.write.now.address c.args.count (sym c.size.ensures.exact ∙ c.if-size-eq0.true)
