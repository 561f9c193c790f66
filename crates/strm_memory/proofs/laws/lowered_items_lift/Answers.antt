use Rattle.strm_memory.proofs.RegionLemmas.{items_at-stored_at, AreItems-items, length-items, items-number_or_none}
use Rattle.strm_memory.proofs.laws.lowered_items_lift.Goals as goal

pub returns : goal.returns
returns c = record {
  lifted = items_at-stored_at;
  fit = AreItems-items;
  count = length-items;
  number_or_none = items-number_or_none;
}
