use Rattle.std.proofs.Common.{◌≡◌, Some, None, ap, ◌∙◌, ◌∷◌, subst, sym, refl, ⊎_elim, arith, [], true, inl, rules}
use Rattle.strm_machine.specs.WaitableSets.{is_in_set}
use Rattle.std.proofs.Common.{false}
use Rattle.strm_shared.specs.Accounts.{entered_with, idled}
use Rattle.strm_shared.specs.Histories.{entry, state_after}
use Rattle.strm_shared.specs.Waits.{wait, waits_by, waits_for, waits_begun}
use Rattle.strm_shared.specs.Plays.{Seated, turn_passed, own_waits, IsTurn}
use Rattle.strm_shared.specs.Tokens.{token}
use Rattle.strm_shared.specs.declared.view.View.{View}
use Rattle.strm_shared.proofs.CallLemmas.{OneTurn, adds, idles}
use Rattle.strm_shared.proofs.SyncLemmas.{begun_others, begun_own}
use Rattle.strm_shared.proofs.store.SharedStore.begin.Goals as goal

pub leave-requires-2-clause-turn : goal.leave-requires-2-clause-turn
leave-requires-2-clause-turn g c =
    let taken = c.in-Some.ensures.turn in
    let numbered = c.requires.may.2.0.numbered in
    let b = c.begin.new.self in
    let n = c.args.number in
    let made = c.in-Ok.ensures.ok ∙ ap (λ x. entered_with x (entry n c.args.step.now c.in-Ok.reply) (waits_begun c.in-Ok.reply x.waits (wait n c.args.place))) c.deref_mut-2.ensures.value in
    let P : Seated → Type 0 = λ m. (m.0.holds ≡ true) × (m.1 ≡ (0, None) ∷ []) × IsTurn m.0 b in
    subst P (sym taken.1) (
      refl,
      refl,
      (
        ap (λ x. x.limits) made ∙ taken.2.of_limits,
        inl (entry n c.args.step.now c.in-Ok.reply, numbered, ap (λ x. x.log) made, ap (λ x. x.idle) made),
        λ k ne. ap (λ x. waits_by k x.waits) made ∙ begun_others k n c.args.place c.in-Ok.reply c.in-Some.desk.waits (λ e. ne (numbered ∙ ap Some e)),
      ),
    )

pub returns-clause-ok : goal.returns-clause-ok
returns-clause-ok g c =
    let taken = c.in-Some.ensures.turn in
    let v = c.args.seat.now.me.0 in
    let a = c.in-Some.desk in
    let b = c.begin.new.self in
    let n = c.args.number in
    let p = c.args.place in
    let r = c.in-Ok.reply in
    let w = c.leave-2.new.seat.me.0 in
    let rests = c.requires.may.2 in
    let made = c.in-Ok.ensures.ok ∙ ap (λ x. entered_with x (entry n c.args.step.now r) (waits_begun r x.waits (wait n p))) c.deref_mut-2.ensures.value in
    let after = ap (λ (m : Seated). m.0) c.leave-2.ensures.passed ∙ ap (λ (m : Seated). turn_passed m.0 b) taken.1 in
    let found = ap (λ (x : View). x.found) after in
    let unbound : v.waiting ≡ [] = ⊎_elim (λ e. e) (λ e. absurd (omega (arith, taken.3, taken.4, e))) rests.2 in
    let none = (taken.2.made n rests.0.numbered).1 ∙ unbound in
    let free : is_in_set (state_after a.limits a.log) p.guest p.handle ≡ false = search rules in
    let limit = ap (λ (x : View). x.limits) after ∙ sym taken.2.of_limits in
    let waiting : w.waiting ≡ waits_for r p =
    ap (λ (x : View). x.waiting) after ∙ (ap (λ z. own_waits z b.waits) rests.0.numbered ∙ (ap (λ x. waits_by n x.waits) made ∙ begun_own n p r a.waits none)) in
    let turn : OneTurn n taken.0 v w a b =
    record { rests = rests.0; enters = taken.2; limits = ap (λ x. x.limits) made; legal = c.in-Ok.ensures.legal; took = record { top = taken.4; few = taken.3; waits = taken.5 }; after = after } in (
      waiting,
      (
        (
          a.log,
          adds (token c.args.seat.now.table_id n v) _ _ n taken.0 v w a b (entry n c.args.step.now r) refl turn refl (ap (λ x. x.log) made),
          subst (λ l. is_in_set (state_after l a.log) p.guest p.handle ≡ false) (sym limit) free,
        ),
        ap (λ (x : View). x.turns) after,
        ap (λ (x : View). x.left) after ∙ (ap (λ x. x.waits) made ∙ ap (λ ws. waits_begun r ws (wait n p)) (sym found)),
        waiting,
      ),
    )

pub returns-in_default-begin-clause-err : goal.returns-in_default-begin-clause-err
returns-in_default-begin-clause-err g c =
    let taken = c.in-Some.ensures.turn in
    let v = c.args.seat.now.me.0 in
    let a = c.in-Some.desk in
    let b = c.pass_idle-in_default-begin.new.self in
    let n = c.args.number in
    let p = c.args.place in
    let w = c.leave-in_default-begin.new.seat.me.0 in
    let idle = c.pass_idle-in_default-begin.ensures.idle ∙ ap idled (c.deref_mut-in_default-begin.ensures.value ∙ (c.in_default-begin.ensures.err ∙ c.deref_mut-2.ensures.value)) in
    let after = ap (λ (m : Seated). m.0) c.leave-in_default-begin.ensures.passed ∙ ap (λ (m : Seated). turn_passed m.0 b) taken.1 in
    let free : is_in_set (state_after a.limits a.log) p.guest p.handle ≡ false = search rules in
    let limit = ap (λ (x : View). x.limits) after ∙ sym taken.2.of_limits in
    let seen = ap (λ (x : View). x.seen) after ∙ ap (λ x. x.log) idle in
    let turn : OneTurn n taken.0 v w a b =
    record { rests = c.requires.may.2.0; enters = taken.2; limits = ap (λ x. x.limits) idle; legal = c.pass_idle-in_default-begin.ensures.legal; took = record { top = taken.4; few = taken.3; waits = taken.5 }; after = after } in (
      search rules,
      (
        idles (token c.args.seat.now.table_id n v) _ _ n taken.0 v w a b refl turn idle,
        subst (λ l. is_in_set (state_after l w.seen) p.guest p.handle ≡ false) (sym limit) (subst (λ l. is_in_set (state_after a.limits l) p.guest p.handle ≡ false) (sym seen) free),
      ),
    )
