use Rattle.std.proofs.Common.{ap, ◌∙◌, subst, sym, refl}
use Rattle.strm_shared.specs.Accounts.{entered, idled}
use Rattle.strm_shared.specs.Histories.{entry}
use Rattle.strm_shared.specs.Waits.{IsClear}
use Rattle.strm_shared.specs.Plays.{Seated, turn_passed}
use Rattle.strm_shared.specs.Tokens.{token}
use Rattle.strm_shared.specs.declared.view.View.{View}
use Rattle.strm_shared.proofs.CallLemmas.{OneTurn, adds, idles, waiting_kept}
use Rattle.strm_shared.proofs.MoveLemmas.{match_some, clear_moved}
use Rattle.strm_shared.proofs.store.SharedStore.shift.Goals as goal

pub returns-in-Ok-Some-clause-ok : goal.returns-in-Ok-Some-clause-ok
returns-in-Ok-Some-clause-ok g c =
    let taken = c.in-Some.ensures.turn in
    let v = c.args.seat.now.me.0 in
    let a = c.in-Some.desk in
    let b = c.shift.new.self in
    let n = c.args.number in
    let w = c.leave-in-Ok-Some.new.seat.me.0 in
    let both = match_some _ _ _ _ c.in-Ok-Some.field-0-is c.in-Ok-Some.ensures.ok in
    let more = both.1 ∙ ap (λ x. entered x (entry n c.args.step.now c.in-Ok-Some.reply)) c.deref_mut.ensures.value in
    let after = ap (λ (m : Seated). m.0) c.leave-in-Ok-Some.ensures.passed ∙ ap (λ (m : Seated). turn_passed m.0 b) taken.1 in
    let found = ap (λ (x : View). x.found) after in
    let turn : OneTurn n taken.0 v w a b =
    record { rests = c.requires.rests.0; enters = taken.2; limits = ap (λ x. x.limits) more; legal = c.in-Ok-Some.ensures.legal; took = record { top = taken.4; few = taken.3; waits = taken.5 }; after = after } in (
      both.0,
      (
        (a.log, adds (token c.args.seat.now.table_id n v) _ _ n taken.0 v w a b (entry n c.args.step.now c.in-Ok-Some.reply) refl turn refl (ap (λ x. x.log) more)),
        ap (λ (x : View). x.turns) after,
        ap (λ (x : View). x.left) after ∙ (ap (λ x. x.waits) more ∙ sym found),
        waiting_kept n taken.0 v w a b turn (ap (λ x. x.waits) more),
        subst (IsClear c.args.step.now) (sym found) (clear_moved c.args.step.now a.waits c.requires.moves),
      ),
    )

pub returns-in-Err-clause-err : goal.returns-in-Err-clause-err
returns-in-Err-clause-err g c =
    let taken = c.in-Some.ensures.turn in
    let v = c.args.seat.now.me.0 in
    let a = c.in-Some.desk in
    let b = c.pass_idle.new.self in
    let n = c.args.number in
    let w = c.leave-in-Err.new.seat.me.0 in
    let idle = c.pass_idle.ensures.idle ∙ ap idled (c.deref_mut-in-Err.ensures.value ∙ (c.in-Err.ensures.err ∙ c.deref_mut.ensures.value)) in
    let after = ap (λ (m : Seated). m.0) c.leave-in-Err.ensures.passed ∙ ap (λ (m : Seated). turn_passed m.0 b) taken.1 in
    let turn : OneTurn n taken.0 v w a b =
    record { rests = c.requires.rests.0; enters = taken.2; limits = ap (λ x. x.limits) idle; legal = c.pass_idle.ensures.legal; took = record { top = taken.4; few = taken.3; waits = taken.5 }; after = after } in
    (idles (token c.args.seat.now.table_id n v) _ _ n taken.0 v w a b refl turn idle, clear_moved c.args.step.now w.found c.requires.moves)
