use Rattle.std.proofs.Common.{sym, ap, ◌∙◌}
use Rattle.strm_machine.specs.Reactions.{goes, lifts}
use Rattle.strm_machine.specs.declared.acts.EndAct.TheVariants.{Lift}
use Rattle.strm_machine.specs.declared.replies.Reply.TheVariants as replies
use Rattle.strm_machine.proofs.ReactionLemmas.{refusal-on_end, performs-on_end}
use Rattle.strm_machine.proofs.RefusalLemmas.{lift_fits}
use Rattle.strm_host_turns.proofs.WriterTurnLemmas.{handed_on}
use Rattle.strm_transmit.proofs.StepLemmas.{is_admitted, reacts, meets_not_admitted}
use Rattle.strm_transmit.proofs.StillLemmas.{done_fits}
use Rattle.strm_transmit.proofs.store.Store.lift_side.Goals as goal

pub release-requires-clause-fits : goal.release-requires-clause-fits
release-requires-clause-fits c =
    lift_fits c.args.self.now c.args.side c.args.end.now
    (sym (refusal-on_end c.args.self.now c.args.side c.args.end.now Lift) ∙ (is_admitted c.args.self.now _ _ _ _ c.lift_found.ensures c.in_ok-stream.ensures.exact).none)

pub release-requires-clause-stream : goal.release-requires-clause-stream
release-requires-clause-stream c = (is_admitted c.args.self.now _ _ _ _ c.lift_found.ensures c.in_ok-stream.ensures.exact).same

pub returns-clause-meets : goal.returns-clause-meets
returns-clause-meets c =
    reacts _ _ _ _ (λ s. lifts c.args.self.now s c.args.side c.args.end.now)
    (is_admitted c.args.self.now _ _ _ _ c.lift_found.ensures c.in_ok-stream.ensures.exact)
    (performs-on_end c.args.self.now c.args.side c.args.end.now Lift)
    ∙ ap (goes (replies.Number c.in_ok-stream.stream)) (sym c.release.ensures)

pub returns-in_err-stream-clause-meets : goal.returns-in_err-stream-clause-meets
returns-in_err-stream-clause-meets c =
    rw (handed_on c.from_residual.result c.from_residual.ensures.1)
    (meets_not_admitted _ _ _ _ _ c.lift_found.ensures c.in_err-stream.ensures.exact)

pub returns-clause-fits : goal.returns-clause-fits
returns-clause-fits c = done_fits _ _ _ _ c.in_ok-stream.ensures.sound c.in_ok-stream.ensures.served (returns-clause-meets c)
