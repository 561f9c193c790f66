use Rattle.std.proofs.Common.{◌≡◌, subst, inr, rules, true}
use Rattle.strm_shared.specs.Histories.{entry}
use Rattle.strm_machine.specs.Moments.{is_blocked}
use Rattle.strm_shared.specs.Tokens.{token, Begun}
use Rattle.strm_shared.proofs.SyncLemmas.{blocked_is, unblocked}
use Rattle.strm_shared.proofs.store.SharedStore.operate.Goals as goal

pub returns-clause-ok : goal.returns-clause-ok
returns-clause-ok g c =
    let n = c.args.number in
    let p = c.args.place in
    let old = token c.args.seat.now.table_id n c.args.seat.now.me.0 in
    let mid = token c.begin.new.seat.table_id n c.begin.new.seat.me.0 in
    let first = c.in_ok-begun.begun in
    let second = c.in_ok-reply.reply in
    let is : is_blocked first ≡ true = search rules in
    let blocked = blocked_is first is in (
      unblocked second c.answer.result c.in_ok-reply.ensures.ok.0 c.answer.ensures,
      inr (mid, second, subst (λ r. Begun old p (entry n c.args.step.now r) mid) blocked c.in_ok-begun.ensures.ok.1, c.in_ok-reply.ensures.ok.1, c.answer.ensures),
    )
