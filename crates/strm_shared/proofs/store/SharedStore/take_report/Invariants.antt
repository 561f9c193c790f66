use Rattle.std.proofs.Common.{◌≡◌, ◌∷◌, []}
use Rattle.strm_shared.specs.Tokens.{token, Rests}
use Rattle.strm_shared.specs.Tokens.{Later}
use Rattle.strm_shared.proofs.store.SharedStore.take_report.Given as goal

abbrev pub invariant-loop : goal.invariant-loop
invariant-loop g l = record {
  goes : (goal.iterator-loop g).can_next l.iterator' × (goal.iterator-loop g).is_finite l.iterator';
  of : (l.seat.table_id ≡ l.initial.seat.table_id) × (l.seat.me.0.limits ≡ l.initial.seat.me.0.limits);
  rests : Rests l.number l.seat.me.0 × (l.seat.me.1 ≡ []);
  waits : l.seat.me.0.waiting ≡ l.place ∷ [];
  later : Later (token l.initial.seat.table_id l.number l.initial.seat.me.0) (token l.seat.table_id l.number l.seat.me.0);
}
