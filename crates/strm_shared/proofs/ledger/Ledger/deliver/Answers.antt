use Rattle.std.proofs.Common.{◌≡◌, refl, sym, subst, ◌∷◌, []}
use Rattle.strm_machine.specs.declared.steps.Step.TheVariants as steps
use Rattle.strm_shared.specs.Histories.{entry}
use Rattle.strm_shared.specs.Waits.{waits_by}
use Rattle.strm_shared.proofs.WaitLemmas.{kept_deliver, kept_room, busy_kept}
use Rattle.strm_shared.proofs.HistoryLemmas.{grows}
use Rattle.strm_shared.proofs.ledger.Ledger.deliver.Goals as goal

pub take_report-requires : goal.take_report-requires
take_report-requires c =
    let own = subst (λ a. waits_by c.args.seat a.waits ≡ c.args.place ∷ []) (sym c.self.view_is) c.requires.waits in
    record { busy = busy_kept _ _ _ _ _ c.args.seat c.args.place c.self.invariant own }

pub invariant_of-self-2 : goal.invariant_of-self-2
invariant_of-self-2 c =
    let own = subst (λ a. waits_by c.args.seat a.waits ≡ c.args.place ∷ []) (sym c.self.view_is) c.requires.waits in
    kept_room _ _ _ _ _ _ _ refl c.push.ensures.room
    (kept_deliver _ _ _ _ _ _ _ _ c.args.seat c.args.place c.in-Some.reply c.self.invariant (record { made = c.in-Some.ensures.1; same = refl; more = c.push.ensures.items }) own c.drop_waits.ensures)

pub returns-clause-legal : goal.returns-clause-legal
returns-clause-legal c =
    (grows _ _ _ _ _ _ (entry c.args.seat (steps.Event c.args.place.guest c.args.place.handle) c.in-Some.reply) c.self.invariant.legal c.self.invariant.store_is c.in-Some.ensures.1 refl c.push.ensures.items).0
