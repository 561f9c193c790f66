use Rattle.std.proofs.Common.{◌≡◌, ◌+◌, ◌*◌, ◌++◌, take, drop}
use Rattle.strm_codes.specs.Layout.{item_type}
use Rattle.strm_memory.specs.Items.{stored, stored_at, AreItems}
use Rattle.strm_memory.proofs.items.lower_from.Given as goal

abbrev pub invariant-loop-k : goal.invariant-loop-k
invariant-loop-k l = record {
  place : l.at ≡ l.to + l.size * l.k;
  fit : AreItems (item_type l.payload) (drop l.k l.items);
  rest : take l.at l.bytes ++ stored (item_type l.payload) (drop l.at l.bytes) (drop l.k l.items) ≡ stored_at (item_type l.payload) l.fn.bytes l.to l.items;
}
