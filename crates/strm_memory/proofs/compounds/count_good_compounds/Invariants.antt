use Rattle.std.proofs.Common.{◌≡◌, true, is_some}
use Rattle.strm_codes.specs.Spellings.{first_type, spelled}
use Rattle.strm_memory.specs.Items.{items_at}
use Rattle.strm_memory.proofs.compounds.count_good_compounds.Given as goal

abbrev pub invariant-loop-k : goal.invariant-loop-k
invariant-loop-k l = record {
  good : is_some (items_at (first_type (spelled l.nodes)) l.bytes l.from l.k) ≡ true;
}
