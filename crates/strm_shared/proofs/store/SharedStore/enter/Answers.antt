use Rattle.std.proofs.Common.{◌≤◌, ◌∷◌, [], None, ap, subst, ◌∙◌}
use Rattle.strm_shared.specs.Accounts.{Account}
use Rattle.strm_shared.specs.Waits.{AreWaits}
use Rattle.strm_shared.specs.Plays.{Seated, holding, Enters}
use Rattle.strm_shared.specs.declared.view.View.{View}
use Rattle.strm_shared.proofs.CallLemmas.{enters_queued}
use Rattle.strm_shared.proofs.store.SharedStore.enter.Goals as goal

pub returns-clause-turn : goal.returns-clause-turn
returns-clause-turn g c =
    let t = c.in_ok-ticket.ticket in
    let a = c.take-desk.result in
    let drawn = c.in_ok-ticket.ensures.drawn in
    let queue = ap (λ (m : Seated). m.0) drawn.0 in
    let v = c.args.seat.now.me.0 in
    let top : v.top_ticket ≤ t = subst (λ (x : View). v.top_ticket ≤ x.top_ticket) queue c.in_ok-ticket.ensures.top in (
      t,
      c.take-desk.ensures.turn ∙ ap (λ (x : View). (holding x a, (0, None) ∷ [])) queue,
      enters_queued v t a (subst (λ x. Enters x a) queue c.take-desk.ensures.enters),
      drawn.1,
      top,
      subst (λ (x : Account). AreWaits x.limits x.log x.waits) c.deref.ensures c.sound.ensures,
    )
