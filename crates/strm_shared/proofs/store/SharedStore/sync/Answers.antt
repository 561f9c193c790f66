use Rattle.std.proofs.Common.{◌≡◌, Some, subst, rules}
use Rattle.strm_shared.specs.Places.{operated}
use Rattle.strm_shared.specs.Tokens.{token, Continues}
use Rattle.strm_shared.proofs.CallLemmas.{rests_one}
use Rattle.strm_shared.proofs.CauseLemmas.{sync_host, sync_worn}
use Rattle.strm_shared.proofs.GrowLemmas.{continues_by, sync_grows}
use Rattle.strm_shared.proofs.store.SharedStore.sync.Goals as goal

pub returns-in-Some-clause-host : goal.returns-in-Some-clause-host
returns-in-Some-clause-host g c =
    let n = c.seat.inside.number in
    let is : operated c.args.step.now ≡ Some c.in-Some.place = search rules in
    sync_host (token c.seat.inside.inside.table_id n c.seat.inside.inside.me.0) c.args.step.now c.in-Some.place (token c.operate.new.seat.table_id n c.operate.new.seat.me.0) c.operate.result is c.operate.ensures.err

pub returns-in-Some-clause-worn : goal.returns-in-Some-clause-worn
returns-in-Some-clause-worn g c =
    let n = c.seat.inside.number in
    let is : operated c.args.step.now ≡ Some c.in-Some.place = search rules in
    sync_worn (token c.seat.inside.inside.table_id n c.seat.inside.inside.me.0) c.args.step.now c.in-Some.place (token c.operate.new.seat.table_id n c.operate.new.seat.me.0) c.operate.result is c.operate.ensures.ok c.operate.ensures.err

pub returns-in-Some-clause-one : goal.returns-in-Some-clause-one
returns-in-Some-clause-one g c =
    let n = c.seat.inside.number in
    let new = token c.operate.new.seat.table_id n c.operate.new.seat.me.0 in
    let old = token c.seat.inside.inside.table_id n c.seat.inside.inside.me.0 in
    let one = rests_one c.operate.new.seat.table_id n c.operate.new.seat.me.0 c.operate.ensures.rests.0 in
    subst (λ o. Continues o new) c.seat.view_is
    (continues_by old new (sync_grows old c.args.step.now c.in-Some.place new c.operate.result c.operate.ensures.ok c.operate.ensures.err) one)
