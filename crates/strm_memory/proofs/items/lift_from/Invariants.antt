use Rattle.std.proofs.Common.{◌≡◌, ◌+◌, ◌-◌, ◌*◌, ◌≤◌, take, drop, is_some, true, vec_len}
use Rattle.std.specs.Vec.{vec_capacity}
use Rattle.strm_codes.specs.Layout.{item_type}
use Rattle.strm_memory.specs.Items.{items, items_at}
use Rattle.strm_memory.proofs.FieldLemmas.{with_front}
use Rattle.strm_memory.proofs.items.lift_from.Given as goal

abbrev pub invariant-loop-k : goal.invariant-loop-k
invariant-loop-k l = record {
  place : l.at ≡ l.from + l.size * l.k;
  room : vec_len l.out + (l.count - l.k) ≤ vec_capacity l.out;
  more : l.start ≤ vec_len l.out;
  front : take l.start l.out.items ≡ l.fn.out.items;
  good : is_some (items_at (item_type l.payload) l.bytes l.from l.k) ≡ true;
  rest : with_front l.out.items (items (item_type l.payload) (drop l.at l.bytes) (l.count - l.k)) ≡ with_front l.fn.out.items (items_at (item_type l.payload) l.bytes l.from l.count);
}
