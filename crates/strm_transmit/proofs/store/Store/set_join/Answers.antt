use Rattle.std.proofs.Common.{refl}
use Rattle.strm_machine.specs.Reactions.{joins, performs}
use Rattle.strm_machine.specs.declared.replies.Reply.TheVariants as replies
use Rattle.strm_host_turns.proofs.WriterTurnLemmas.{handed_on}
use Rattle.strm_transmit.specs.Meets.{as_reply}
use Rattle.strm_transmit.proofs.StepLemmas.{is_admitted, reacts, meets_admitted, meets_not_admitted}
use Rattle.strm_transmit.proofs.StillLemmas.{still_fits}
use Rattle.strm_transmit.proofs.store.Store.set_join.Goals as goal

pub join_number-requires-clause-may : goal.join_number-requires-clause-may
join_number-requires-clause-may c = (is_admitted c.args.self.now _ _ _ _ c.join_found.ensures c.in_ok-number.ensures.exact).none

pub join_number-requires-clause-number : goal.join_number-requires-clause-number
join_number-requires-clause-number c = (is_admitted c.args.self.now _ _ _ _ c.join_found.ensures c.in_ok-number.ensures.exact).same

pub returns-clause-meets : goal.returns-clause-meets
unfolding performs
returns-clause-meets c =
    meets_admitted c.args.self.now c.join_number.new.self _ (as_reply (λ _. replies.Done) c.join_number.result) _
    (reacts _ _ _ _ (λ _. joins c.args.self.now c.args.guest c.args.set c.args.handle)
    (is_admitted c.args.self.now _ _ _ _ c.join_found.ensures c.in_ok-number.ensures.exact) refl)
    c.join_number.ensures

pub returns-in_err-number-clause-meets : goal.returns-in_err-number-clause-meets
returns-in_err-number-clause-meets c =
    rw (handed_on c.from_residual.result c.from_residual.ensures.1)
    (meets_not_admitted _ _ _ _ _ c.join_found.ensures c.in_err-number.ensures.exact)

pub returns-clause-fits : goal.returns-clause-fits
returns-clause-fits c =
    still_fits _ _ _ (as_reply (λ _. replies.Done) c.join_number.result) c.in_ok-number.ensures.sound c.in_ok-number.ensures.served (returns-clause-meets c)
