use Rattle.std.proofs.Common.{refl, sym, ap, ◌∙◌}
use Rattle.strm_machine.specs.Reactions.{goes, on_set, performs}
use Rattle.strm_machine.specs.declared.acts.SetAct.TheVariants.{Drop}
use Rattle.strm_machine.specs.declared.replies.Reply.TheVariants as replies
use Rattle.strm_host_turns.proofs.WriterTurnLemmas.{handed_on}
use Rattle.strm_transmit.proofs.StepLemmas.{is_admitted, reacts, meets_not_admitted}
use Rattle.strm_transmit.proofs.StillLemmas.{done_fits}
use Rattle.strm_transmit.proofs.store.Store.set_drop.Goals as goal

pub drop_number-requires-clause-may : goal.drop_number-requires-clause-may
drop_number-requires-clause-may c = (is_admitted c.args.self.now _ _ _ _ c.set_drop_found.ensures c.in_ok-number.ensures.exact).none

pub drop_number-requires-clause-number : goal.drop_number-requires-clause-number
drop_number-requires-clause-number c = (is_admitted c.args.self.now _ _ _ _ c.set_drop_found.ensures c.in_ok-number.ensures.exact).same

pub returns-clause-meets : goal.returns-clause-meets
unfolding performs
returns-clause-meets c =
    reacts _ _ _ _ (λ _. on_set c.args.self.now c.args.guest c.args.set Drop)
    (is_admitted c.args.self.now _ _ _ _ c.set_drop_found.ensures c.in_ok-number.ensures.exact) refl
    ∙ ap (goes replies.Done) (sym c.drop_number.ensures)

pub returns-in_err-number-clause-meets : goal.returns-in_err-number-clause-meets
returns-in_err-number-clause-meets c =
    rw (handed_on c.from_residual.result c.from_residual.ensures.1)
    (meets_not_admitted _ _ _ _ _ c.set_drop_found.ensures c.in_err-number.ensures.exact)

pub returns-clause-fits : goal.returns-clause-fits
returns-clause-fits c = done_fits _ _ _ _ c.in_ok-number.ensures.sound c.in_ok-number.ensures.served (returns-clause-meets c)
