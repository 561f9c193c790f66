use Rattle.std.proofs.Common.{rules, subst, ◌≡◌, Some}
use Rattle.std.specs.Prelude.{MatchOption}
use Rattle.strm_shared.specs.declared.entry.Place.{Place}
use Rattle.strm_shared.specs.Places.{place_named}
use Rattle.strm_shared.specs.Waits.{wait, Has, IsClear}
use Rattle.strm_shared.proofs.AloneLemmas.{waiter_says}
use Rattle.strm_shared.proofs.ledger.Ledger.waiter.Goals as goal

pub returns : goal.returns
returns c =
    let is : place_named c.args.step.now ≡ Some c.in_ok-place.place = search rules in
    subst (λ a. MatchOption c.seat_at.result (IsClear c.args.step.now a.waits) (λ seat. (x : Place) × (place_named c.args.step.now ≡ Some x) × Has (wait seat x) a.waits)) c.self.view_is
    (waiter_says c.args.step.now c.in_ok-place.place c.self.inside.waits.items c.seat_at.result is c.seat_at.ensures)
