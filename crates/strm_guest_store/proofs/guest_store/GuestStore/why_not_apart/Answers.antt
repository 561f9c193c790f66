-- A store among guests is never trapped, so the machine stops only at an item that is none, which is then found.
use Rattle.std.proofs.Common.{Err, refl, sym, subst}
use Rattle.strm_machine.specs.State.{State}
use Rattle.strm_machine.specs.Reactions.{react}
use Rattle.strm_transmit.specs.BadItems.{MeetsOrStays, operation_step}
use Rattle.strm_transmit.specs.declared.errors.StoreError.{StoreError}
use Rattle.strm_guest_store.specs.Operations.{StopsAtItem}
use Rattle.strm_guest_store.proofs.OperateLemmas.{never_trapped, stops_somewhere, stops_there}
use Rattle.strm_guest_store.proofs.guest_store.GuestStore.why_not_apart.Goals as goal

pub unreachable-requires : goal.unreachable-requires
unreachable-requires c =
    let state = c.self.inside.store in
    let step = operation_step c.args.side c.args.end c.args.address c.args.count in
    let meets = subst (λ (s : State). MeetsOrStays s s (Err c.args.error) (react s step)) (sym c.self.view_is) c.requires.meets in
    stops_somewhere state step c.self.invariant.untrapped c.in-BadItem.stream
    (subst (λ (e : StoreError). MeetsOrStays state state (Err e) (react state step)) c.in-BadItem.is meets)
    (c.in-None.ensures.none refl)

pub unreachable-requires-in-StoreTrapped : goal.unreachable-requires-in-StoreTrapped
unreachable-requires-in-StoreTrapped c =
    let state = c.self.inside.store in
    let step = operation_step c.args.side c.args.end c.args.address c.args.count in
    let meets = subst (λ (s : State). MeetsOrStays s s (Err c.args.error) (react s step)) (sym c.self.view_is) c.requires.meets in
    never_trapped state step c.self.invariant.untrapped
    (subst (λ (e : StoreError). MeetsOrStays state state (Err e) (react state step)) c.in-StoreTrapped.is meets)

pub returns-in-Some : goal.returns-in-Some
returns-in-Some c =
    let step = operation_step c.args.side c.args.end c.args.address c.args.count in (
      subst (λ (s : State). StopsAtItem s step c.in-Some.item) c.self.view_is
          (stops_there c.self.inside.store step c.self.invariant.untrapped c.in-Some.item c.in-Some.ensures.some),
      refl,
    )
