use Rattle.std.proofs.Common.{◌≡◌, ◌+◌, Some, None, ap, ◌∙◌, ◌∷◌, subst, sym, refl, arith, [], true, inl}
use Rattle.strm_machine.specs.declared.steps.Step.TheVariants as steps
use Rattle.strm_shared.specs.Accounts.{entered_with}
use Rattle.strm_shared.specs.Histories.{entry}
use Rattle.strm_shared.specs.Waits.{waits_by, without}
use Rattle.strm_shared.specs.Plays.{Seated, turn_passed, own_waits, IsTurn}
use Rattle.strm_shared.specs.Tokens.{token}
use Rattle.strm_shared.specs.declared.view.View.{View}
use Rattle.strm_shared.proofs.CallLemmas.{OneTurn, adds}
use Rattle.strm_shared.proofs.SyncLemmas.{without_others, without_own}
use Rattle.strm_shared.proofs.store.SharedStore.look.Goals as goal

pub leave-requires-in-Some-deliver-clause-turn : goal.leave-requires-in-Some-deliver-clause-turn
leave-requires-in-Some-deliver-clause-turn g c =
    let taken = c.in-Some.ensures.turn in
    let numbered = c.requires.rests.0.numbered in
    let b = c.deliver.new.self in
    let n = c.args.number in
    let event = entry n (steps.Event c.args.place.guest c.args.place.handle) c.in-Some-deliver.reply in
    let made = c.in-Some-deliver.ensures.turn.1 ∙ ap (λ x. entered_with x event (without n x.waits)) c.deref_mut.ensures.value in
    let P : Seated → Type 0 = λ m. (m.0.holds ≡ true) × (m.1 ≡ (0, None) ∷ []) × IsTurn m.0 b in
    subst P (sym taken.1) (
      refl,
      refl,
      (
        ap (λ x. x.limits) made ∙ taken.2.of_limits,
        inl (entry n (steps.Event c.args.place.guest c.args.place.handle) c.in-Some-deliver.reply, numbered, ap (λ x. x.log) made, ap (λ x. x.idle) made),
        λ k ne. ap (λ x. waits_by k x.waits) made ∙ without_others k n c.in-Some.desk.waits (λ e. ne (numbered ∙ ap Some e)),
      ),
    )

pub returns-in-Some-deliver-clause-ok : goal.returns-in-Some-deliver-clause-ok
returns-in-Some-deliver-clause-ok g c =
    let taken = c.in-Some.ensures.turn in
    let v = c.args.seat.now.me.0 in
    let a = c.in-Some.desk in
    let b = c.deliver.new.self in
    let n = c.args.number in
    let r = c.in-Some-deliver.reply in
    let w = c.leave-in-Some-deliver.new.seat.me.0 in
    let rests = c.requires.rests in
    let event = entry n (steps.Event c.args.place.guest c.args.place.handle) r in
    let made = c.in-Some-deliver.ensures.turn.1 ∙ ap (λ x. entered_with x event (without n x.waits)) c.deref_mut.ensures.value in
    let after = ap (λ (m : Seated). m.0) c.leave-in-Some-deliver.ensures.passed ∙ ap (λ (m : Seated). turn_passed m.0 b) taken.1 in
    let found = ap (λ (x : View). x.found) after in
    let turns : w.turns ≡ v.turns + 1 = ap (λ (x : View). x.turns) after in
    let waiting : w.waiting ≡ [] =
    ap (λ (x : View). x.waiting) after ∙ (ap (λ z. own_waits z b.waits) rests.0.numbered ∙ (ap (λ x. waits_by n x.waits) made ∙ without_own n a.waits)) in
    let turn : OneTurn n taken.0 v w a b =
    record { rests = rests.0; enters = taken.2; limits = ap (λ x. x.limits) made; legal = c.in-Some-deliver.ensures.legal; took = record { top = taken.4; few = taken.3; waits = taken.5 }; after = after } in (
      waiting,
      c.in-Some-deliver.ensures.turn.0,
      (
        (a.log, adds (token c.args.seat.now.table_id n v) _ _ n taken.0 v w a b (entry n (steps.Event c.args.place.guest c.args.place.handle) r) refl turn refl (ap (λ x. x.log) made)),
        omega arith,
        ap (λ (x : View). x.left) after ∙ (ap (λ x. x.waits) made ∙ ap (λ ws. without n ws) (sym found)),
        waiting,
      ),
    )
