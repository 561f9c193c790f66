use Rattle.std.proofs.Common.{arith, sym, subst, ◌≡◌, false}
use Rattle.std.proofs.lemmas.Grind.{common_steps}
use Rattle.strm_machine.specs.WaitableSets.{is_in_set}
use Rattle.strm_shared.specs.Histories.{entry, state_after}
use Rattle.strm_shared.proofs.WaitLemmas.{kept_begun, kept_room, reached_kept}
use Rattle.strm_shared.proofs.HistoryLemmas.{grows}
use Rattle.strm_shared.proofs.ledger.Ledger.begin.Goals as goal

pub invariant_of-self : goal.invariant_of-self
invariant_of-self c = kept_room _ _ _ _ _ _ _ c.reserve.ensures.same c.reserve.ensures.room c.self.invariant

pub apply_alone-requires-clause-reached : goal.apply_alone-requires-clause-reached
apply_alone-requires-clause-reached c = reached_kept c.self.inside.limits c.self.inside.store c.self.inside.history.items c.self.invariant.store_is

pub invariant_of-self-2 : goal.invariant_of-self-2
invariant_of-self-2 c =
    let p = c.args.place in
    let free = subst (λ s. is_in_set s p.guest p.handle ≡ false) (sym c.self.invariant.store_is) (subst (λ a. is_in_set (state_after a.limits a.log) p.guest p.handle ≡ false) (sym c.self.view_is) c.requires.free) in
    kept_begun _ _ _ _ _ _ c.args.seat p c.args.step.now c.in_ok-reply.reply c.self.inside.waits.items _ _ _ c.self.invariant
    (record { made = c.in_ok-reply.ensures.ok; same = c.reserve.ensures.same; more = c.push.ensures.items })
    (record { operates = c.requires.operates; free = free; enough = grind (arith, common_steps) })
    (grind (arith, common_steps))

pub returns-clause-legal : goal.returns-clause-legal
returns-clause-legal c =
    (grows _ _ _ _ _ _ (entry c.args.seat c.args.step.now c.in_ok-reply.reply) c.self.invariant.legal c.self.invariant.store_is c.in_ok-reply.ensures.ok c.reserve.ensures.same c.push.ensures.items).0
