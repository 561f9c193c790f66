use Rattle.std.proofs.Common.{◌≡◌, Some, ap, ◌∙◌, subst, sym, refl, ⊎_elim, arith, []}
use Rattle.strm_shared.specs.Accounts.{Account, entered, idled}
use Rattle.strm_shared.specs.Histories.{entry}
use Rattle.strm_shared.specs.Places.{place_named}
use Rattle.strm_shared.specs.Waits.{wait, Has, IsClear}
use Rattle.strm_shared.specs.Plays.{Seated, turn_passed}
use Rattle.strm_shared.specs.Tokens.{token}
use Rattle.strm_shared.specs.declared.entry.Place.{Place}
use Rattle.strm_shared.specs.declared.view.View.{View}
use Rattle.strm_shared.proofs.CallLemmas.{OneTurn, adds, idles, not_own, waiting_kept}
use Rattle.strm_shared.proofs.store.SharedStore.make.Goals as goal

pub returns-in-Some-waiter-clause-err : goal.returns-in-Some-waiter-clause-err
returns-in-Some-waiter-clause-err g c =
    let taken = c.in-Some.ensures.turn in
    let v = c.args.seat.now.me.0 in
    let a = c.in-Some.desk in
    let b = c.pass_idle.new.self in
    let w = c.leave.new.seat.me.0 in
    let rests = c.requires.rests in
    let idle = c.pass_idle.ensures.idle ∙ ap idled c.deref_mut.ensures.value in
    let after = ap (λ (m : Seated). m.0) c.leave.ensures.passed ∙ ap (λ (m : Seated). turn_passed m.0 b) taken.1 in
    let seat = c.in-Some-waiter.other in
    let there = subst (λ (x : Account). (h : Place) × (place_named c.args.step.now ≡ Some h) × Has (wait seat h) x.waits) c.deref.ensures c.in-Some-waiter.ensures in
    let unbound : v.waiting ≡ [] = ⊎_elim (λ e. e) (λ e. absurd (omega (arith, taken.3, taken.4, e))) rests.2 in
    let none = (taken.2.made c.args.number rests.0.numbered).1 ∙ unbound in
    let found = ap (λ (x : View). x.found) after in
    let turn : OneTurn c.args.number taken.0 v w a b =
    record { rests = rests.0; enters = taken.2; limits = ap (λ x. x.limits) idle; legal = c.pass_idle.ensures.legal; took = record { top = taken.4; few = taken.3; waits = taken.5 }; after = after } in (
      idles (token c.args.seat.now.table_id c.args.number v) _ _ c.args.number taken.0 v w a b refl turn idle,
      not_own c.args.number seat there.0 a.waits none there.2,
      (there.0, there.1, subst (Has (wait seat there.0)) (sym found) there.2),
    )

pub returns-clause-ok : goal.returns-clause-ok
returns-clause-ok g c =
    let taken = c.in-Some.ensures.turn in
    let v = c.args.seat.now.me.0 in
    let a = c.in-Some.desk in
    let b = c.enter-2.new.self in
    let w = c.leave-2.new.seat.me.0 in
    let more = c.in-Ok.ensures.ok ∙ ap (λ x. entered x (entry c.args.number c.args.step.now c.in-Ok.reply)) c.deref_mut-2.ensures.value in
    let after = ap (λ (m : Seated). m.0) c.leave-2.ensures.passed ∙ ap (λ (m : Seated). turn_passed m.0 b) taken.1 in
    let found = ap (λ (x : View). x.found) after in
    let turn : OneTurn c.args.number taken.0 v w a b =
    record { rests = c.requires.rests.0; enters = taken.2; limits = ap (λ x. x.limits) more; legal = c.in-Ok.ensures.legal; took = record { top = taken.4; few = taken.3; waits = taken.5 }; after = after } in (
      (a.log, adds (token c.args.seat.now.table_id c.args.number v) _ _ c.args.number taken.0 v w a b (entry c.args.number c.args.step.now c.in-Ok.reply) refl turn refl (ap (λ x. x.log) more)),
      ap (λ (x : View). x.turns) after,
      ap (λ (x : View). x.left) after ∙ (ap (λ x. x.waits) more ∙ sym found),
      waiting_kept c.args.number taken.0 v w a b turn (ap (λ x. x.waits) more),
      subst (IsClear c.args.step.now) (sym found) (subst (λ (x : Account). IsClear c.args.step.now x.waits) c.deref.ensures c.in_default-waiter.ensures),
    )

pub returns-in_default-enter-clause-err : goal.returns-in_default-enter-clause-err
returns-in_default-enter-clause-err g c =
    let taken = c.in-Some.ensures.turn in
    let v = c.args.seat.now.me.0 in
    let a = c.in-Some.desk in
    let b = c.pass_idle-in_default-enter.new.self in
    let w = c.leave-in_default-enter.new.seat.me.0 in
    let same = c.in_default-enter.ensures.err ∙ c.deref_mut-2.ensures.value in
    let idle = c.pass_idle-in_default-enter.ensures.idle ∙ ap idled (c.deref_mut-in_default-enter.ensures.value ∙ same) in
    let after = ap (λ (m : Seated). m.0) c.leave-in_default-enter.ensures.passed ∙ ap (λ (m : Seated). turn_passed m.0 b) taken.1 in
    let found = ap (λ (x : View). x.found) after in
    let turn : OneTurn c.args.number taken.0 v w a b =
    record { rests = c.requires.rests.0; enters = taken.2; limits = ap (λ x. x.limits) idle; legal = c.pass_idle-in_default-enter.ensures.legal; took = record { top = taken.4; few = taken.3; waits = taken.5 }; after = after } in (
      idles (token c.args.seat.now.table_id c.args.number v) _ _ c.args.number taken.0 v w a b refl turn idle,
      subst (IsClear c.args.step.now) (sym found) (subst (λ (x : Account). IsClear c.args.step.now x.waits) c.deref.ensures c.in_default-waiter.ensures),
    )
