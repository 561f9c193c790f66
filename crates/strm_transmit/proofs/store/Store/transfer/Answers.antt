use Rattle.std.proofs.Common.{ℕ}
use Rattle.strm_machine.specs.Reactions.{transfers}
use Rattle.strm_machine.specs.declared.replies.Reply.TheVariants as replies
use Rattle.strm_machine.specs.declared.streams.Side.{Side}
use Rattle.strm_host_turns.proofs.WriterTurnLemmas.{handed_on}
use Rattle.strm_transmit.specs.Meets.{as_reply}
use Rattle.strm_transmit.proofs.StepLemmas.{is_admitted, reacts, meets_admitted, meets_not_admitted}
use Rattle.strm_transmit.proofs.StillLemmas.{still_fits}
use Rattle.strm_transmit.proofs.MoveLemmas.{performs-transfer}
use Rattle.strm_transmit.proofs.store.Store.transfer.Goals as goal

pub move_named-requires-clause-may : goal.move_named-requires-clause-may
move_named-requires-clause-may c = (is_admitted c.args.self.now _ _ _ _ c.move_found.ensures c.in_ok-found.ensures.exact).none

pub move_named-requires-clause-found : goal.move_named-requires-clause-found
move_named-requires-clause-found c = (is_admitted c.args.self.now _ _ _ _ c.move_found.ensures c.in_ok-found.ensures.exact).same

pub move_named-requires-clause-untrapped : goal.move_named-requires-clause-untrapped
move_named-requires-clause-untrapped c = (is_admitted c.args.self.now _ _ _ _ c.move_found.ensures c.in_ok-found.ensures.exact).untrapped

pub returns-clause-meets : goal.returns-clause-meets
returns-clause-meets c =
    meets_admitted c.args.self.now c.move_named.new.self _ (as_reply replies.Number c.move_named.result) _
    (reacts _ _ _ _ (λ (q : ℕ × Side). transfers c.args.self.now q.0 q.1 c.args.end.now c.args.to)
    (is_admitted c.args.self.now _ _ _ _ c.move_found.ensures c.in_ok-found.ensures.exact)
    (performs-transfer c.args.self.now c.args.end.now c.args.to))
    c.move_named.ensures.meets

pub returns-in_err-found-clause-meets : goal.returns-in_err-found-clause-meets
returns-in_err-found-clause-meets c =
    rw (handed_on c.from_residual.result c.from_residual.ensures.1)
    (meets_not_admitted _ _ _ _ _ c.move_found.ensures c.in_err-found.ensures.exact)

pub returns-clause-fits : goal.returns-clause-fits
returns-clause-fits c =
    still_fits _ _ _ (as_reply replies.Number c.move_named.result) c.in_ok-found.ensures.sound c.in_ok-found.ensures.served (returns-clause-meets c)
