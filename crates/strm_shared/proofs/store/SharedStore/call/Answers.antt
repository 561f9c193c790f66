use Rattle.std.proofs.Common.{◌≡◌, IfOk, subst, rules, true, false}
use Rattle.strm_shared.specs.Histories.{entry}
use Rattle.strm_shared.specs.Places.{is_host_step}
use Rattle.strm_shared.specs.Tokens.{token, Continues, Called}
use Rattle.strm_shared.proofs.CallLemmas.{rests_one}
use Rattle.strm_shared.proofs.CauseLemmas.{host_worn, call_worn}
use Rattle.strm_shared.proofs.GrowLemmas.{continues_by, call_grows}
use Rattle.strm_shared.proofs.store.SharedStore.call.Goals as goal

pub returns-clause-ok : goal.returns-clause-ok
returns-clause-ok g c =
    subst (λ o. IfOk c.make.result (λ reply. Called o (entry o.number c.args.step.now reply) (token c.make.new.seat.table_id c.seat.inside.number c.make.new.seat.me.0))) c.seat.view_is c.make.ensures.ok

pub returns-then-is_host_step-clause-worn : goal.returns-then-is_host_step-clause-worn
returns-then-is_host_step-clause-worn g c =
    let is : is_host_step c.args.step.now ≡ true = search rules in
    host_worn c.args.step.now c.args.seat.now is

pub returns-clause-worn : goal.returns-clause-worn
returns-clause-worn g c =
    let n = c.seat.inside.number in
    let guests : is_host_step c.args.step.now ≡ false = search rules in
    call_worn (token c.seat.inside.inside.table_id n c.seat.inside.inside.me.0) c.args.step.now (token c.make.new.seat.table_id n c.make.new.seat.me.0) n c.make.result guests c.make.ensures.ok c.make.ensures.err

pub returns-clause-one : goal.returns-clause-one
returns-clause-one g c =
    let n = c.seat.inside.number in
    let new = token c.make.new.seat.table_id n c.make.new.seat.me.0 in
    let old = token c.seat.inside.inside.table_id n c.seat.inside.inside.me.0 in
    let one = rests_one c.make.new.seat.table_id n c.make.new.seat.me.0 c.make.ensures.rests.0 in
    subst (λ o. Continues o new) c.seat.view_is (continues_by old new (call_grows old c.args.step.now new n c.make.result c.make.ensures.ok c.make.ensures.err) one)
