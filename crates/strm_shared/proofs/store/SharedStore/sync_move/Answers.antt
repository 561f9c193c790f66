use Rattle.std.proofs.Common.{◌≡◌, IfOk, IfErr, subst, sym, rules, true, false}
use Rattle.strm_shared.specs.Places.{is_move}
use Rattle.strm_shared.specs.Tokens.{token, Continues}
use Rattle.strm_shared.specs.Causes.{MovesBy, FailsToMoveBy}
use Rattle.strm_shared.proofs.CallLemmas.{rests_one}
use Rattle.strm_shared.proofs.CauseLemmas.{move_host, move_worn}
use Rattle.strm_shared.proofs.GrowLemmas.{continues_by, move_grows}
use Rattle.strm_shared.proofs.store.SharedStore.sync_move.Goals as goal

pub returns-then-is_move-clause-ok : goal.returns-then-is_move-clause-ok
returns-then-is_move-clause-ok g c =
    let n = c.seat.inside.number in
    let step = c.args.step.now in
    let new = token c.shifts.new.seat.table_id n c.shifts.new.seat.me.0 in
    let is : is_move step ≡ true = search rules in
    subst (λ o. IfOk c.shifts.result (λ reply. MovesBy (is_move step) o step reply new)) c.seat.view_is
    (subst (λ b. IfOk c.shifts.result (λ reply. MovesBy b (token c.seat.inside.inside.table_id n c.seat.inside.inside.me.0) step reply new)) (sym is) c.shifts.ensures.ok)

pub returns-then-is_move-clause-err : goal.returns-then-is_move-clause-err
returns-then-is_move-clause-err g c =
    let n = c.seat.inside.number in
    let step = c.args.step.now in
    let new = token c.shifts.new.seat.table_id n c.shifts.new.seat.me.0 in
    let is : is_move step ≡ true = search rules in
    subst (λ o. IfErr c.shifts.result (λ error. FailsToMoveBy (is_move step) o step error new)) c.seat.view_is
    (subst (λ b. IfErr c.shifts.result (λ error. FailsToMoveBy b (token c.seat.inside.inside.table_id n c.seat.inside.inside.me.0) step error new)) (sym is) c.shifts.ensures.err)

pub returns-then-is_move-clause-host : goal.returns-then-is_move-clause-host
returns-then-is_move-clause-host g c =
    let n = c.seat.inside.number in
    let is : is_move c.args.step.now ≡ true = search rules in
    move_host (token c.seat.inside.inside.table_id n c.seat.inside.inside.me.0) c.args.step.now (token c.shifts.new.seat.table_id n c.shifts.new.seat.me.0) c.shifts.result is c.shifts.ensures.err

pub returns-then-is_move-clause-worn : goal.returns-then-is_move-clause-worn
returns-then-is_move-clause-worn g c =
    let n = c.seat.inside.number in
    let is : is_move c.args.step.now ≡ true = search rules in
    move_worn (token c.seat.inside.inside.table_id n c.seat.inside.inside.me.0) c.args.step.now (token c.shifts.new.seat.table_id n c.shifts.new.seat.me.0) c.shifts.result is c.shifts.ensures.ok c.shifts.ensures.err

pub returns-clause-ok : goal.returns-clause-ok
returns-clause-ok g c =
    let step = c.args.step.now in
    let is : is_move step ≡ false = search rules in
    subst (λ b. IfOk c.call.result (λ reply. MovesBy b c.args.seat.now step reply c.call.new.seat)) (sym is) c.call.ensures.ok

pub returns-clause-err : goal.returns-clause-err
returns-clause-err g c =
    let step = c.args.step.now in
    let is : is_move step ≡ false = search rules in
    subst (λ b. IfErr c.call.result (λ error. FailsToMoveBy b c.args.seat.now step error c.call.new.seat)) (sym is) c.call.ensures.err

pub returns-then-is_move-clause-one : goal.returns-then-is_move-clause-one
returns-then-is_move-clause-one g c =
    let n = c.seat.inside.number in
    let new = token c.shifts.new.seat.table_id n c.shifts.new.seat.me.0 in
    let old = token c.seat.inside.inside.table_id n c.seat.inside.inside.me.0 in
    let one = rests_one c.shifts.new.seat.table_id n c.shifts.new.seat.me.0 c.shifts.ensures.rests.0 in
    subst (λ o. Continues o new) c.seat.view_is
    (continues_by old new (move_grows old c.args.step.now new c.shifts.result c.shifts.ensures.ok c.shifts.ensures.err) one)
