use Rattle.std.proofs.Common.{arith, sym, subst, rules, ◌≡◌, true}
use Rattle.std.proofs.lemmas.Grind.{common_steps}
use Rattle.strm_machine.specs.Acts.{act_of}
use Rattle.strm_shared.specs.Histories.{entry}
use Rattle.strm_shared.specs.Places.{is_refused_busy}
use Rattle.strm_shared.specs.Waits.{IsSlotKept}
use Rattle.strm_shared.proofs.WaitLemmas.{kept_enter, kept_room, reached_kept}
use Rattle.strm_shared.proofs.MoveLemmas.{move-guests, clear_moved, moved_same}
use Rattle.strm_shared.proofs.HistoryLemmas.{grows}
use Rattle.strm_shared.proofs.ledger.Ledger.shift.Goals as goal

pub invariant_of-self : goal.invariant_of-self
invariant_of-self c = kept_room _ _ _ _ _ _ _ c.reserve.ensures.same c.reserve.ensures.room c.self.invariant

pub apply_alone-requires-clause-reached : goal.apply_alone-requires-clause-reached
apply_alone-requires-clause-reached c = reached_kept c.self.inside.limits c.self.inside.store c.self.inside.history.items c.self.invariant.store_is

pub apply_alone-requires-clause-guests : goal.apply_alone-requires-clause-guests
apply_alone-requires-clause-guests c = move-guests (act_of c.args.step.now) c.requires.moves

pub invariant_of-self-then-is_refused_busy : goal.invariant_of-self-then-is_refused_busy
invariant_of-self-then-is_refused_busy c =
    let busy : is_refused_busy c.in_ok-reply.reply ≡ true = search rules in
    let same = moved_same c.self.inside.store c.apply_alone.new.self c.args.step.now c.in_ok-reply.reply c.in_ok-reply.ensures.ok c.requires.moves busy in
    subst (λ s. IsSlotKept c.self.inside.limits s c.reserve.new.self.items c.self.inside.waits.items c.reserve.new.self.room) (sym same)
    (kept_room _ _ _ _ _ _ _ c.reserve.ensures.same c.reserve.ensures.room c.self.invariant)

pub invariant_of-self-2 : goal.invariant_of-self-2
invariant_of-self-2 c =
    kept_enter _ _ _ _ _ _ _ _ _ (entry c.args.seat c.args.step.now c.in_ok-reply.reply) c.self.invariant
    (record { made = c.in_ok-reply.ensures.ok; same = c.reserve.ensures.same; more = c.push.ensures.items })
    (clear_moved c.args.step.now c.self.inside.waits.items c.requires.moves) (grind (arith, common_steps))

pub returns-clause-legal : goal.returns-clause-legal
returns-clause-legal c =
    (grows _ _ _ _ _ _ (entry c.args.seat c.args.step.now c.in_ok-reply.reply) c.self.invariant.legal c.self.invariant.store_is c.in_ok-reply.ensures.ok c.reserve.ensures.same c.push.ensures.items).0
