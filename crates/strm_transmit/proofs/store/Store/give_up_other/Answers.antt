use Rattle.std.proofs.Common.{Some, sym, ap, ◌∙◌}
use Rattle.strm_transmit.proofs.LivesLemmas.{may_drop_set, may_drop_context}
use Rattle.strm_transmit.proofs.store.Store.give_up_other.Goals as goal

pub drop_number-requires-clause-may : goal.drop_number-requires-clause-may
drop_number-requires-clause-may c =
    may_drop_set c.args.self.now c.args.guest c.args.handle c.in-WaitableSet.rep c.sound.ensures c.requires.there c.requires.none
    (sym c.in-Some.ensures.exact ∙ ap Some c.in-WaitableSet.is)

pub drop_context-requires-clause-may : goal.drop_context-requires-clause-may
drop_context-requires-clause-may c =
    may_drop_context c.args.self.now c.args.guest c.args.handle c.in-ErrorContext.rep c.requires.there
    (sym c.in-Some.ensures.exact ∙ ap Some c.in-ErrorContext.is)
