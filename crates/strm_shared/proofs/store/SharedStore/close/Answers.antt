use Rattle.std.proofs.Common.{sym, subst}
use Rattle.strm_shared.specs.Plays.{Enters}
use Rattle.strm_shared.proofs.ClosingLemmas.{closes}
use Rattle.strm_shared.proofs.store.SharedStore.close.Goals as goal

pub returns-clause-ok : goal.returns-clause-ok
returns-clause-ok g c =
    let taken = c.in-Some.ensures.turn in let parts = c.into_parts-store.ensures in
    closes c.args.seat _ c.seat.inside.number c.seat.inside.inside.me.0 c.into_ledger.result (record { store = c.into_parts-store.result.0; history = c.into_parts-store.result.1 }) taken.0 c.seat.view_is c.seat.invariant.0 (subst (Enters c.seat.inside.inside.me.0) (sym c.into_ledger.ensures) taken.2) taken.3 taken.4 parts.legal parts.parts.0 parts.parts.1
