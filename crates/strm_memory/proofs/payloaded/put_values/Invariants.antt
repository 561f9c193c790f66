use Rattle.std.proofs.Common.{◌≡◌, take, map}
use Rattle.strm_codes.specs.Layout.{item_type}
use Rattle.strm_memory.specs.Items.{stored, AreItems}
use Rattle.strm_memory.proofs.ItemLemmas.{stores_from}
use Rattle.strm_memory.proofs.payloaded.put_values.Given as goal

abbrev pub invariant-loop-k : goal.invariant-loop-k
invariant-loop-k g l = record {
  fit : AreItems (item_type g.T.Payloaded.payload) (take l.k (map g.T.Payloaded.item l.values));
  rest : stores_from (item_type g.T.Payloaded.payload) l.size (map g.T.Payloaded.item l.values) l.k l.bytes
      ≡ stored (item_type g.T.Payloaded.payload) l.fn.bytes (map g.T.Payloaded.item l.values);
}
