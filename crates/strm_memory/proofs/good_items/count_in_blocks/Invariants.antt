use Rattle.std.proofs.Common.{◌≡◌, ◌-◌, ◌≤◌, true, is_some}
use Rattle.strm_codes.specs.ItemTypes.{fields_type}
use Rattle.strm_memory.specs.Items.{items_at}
use Rattle.strm_memory.proofs.good_items.count_in_blocks.Given as goal

abbrev pub invariant-loop-done : goal.invariant-loop-done
invariant-loop-done l = record {
  inside : l.done ≤ l.count;
  good : is_some (items_at (fields_type l.fields) l.bytes l.from l.done) ≡ true;
}

abbrev pub decreases-loop-done : goal.decreases-loop-done
decreases-loop-done l = l.count - l.done
