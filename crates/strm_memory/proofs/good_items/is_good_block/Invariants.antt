use Rattle.std.proofs.Common.{◌≡◌, drop}
use Rattle.strm_codes.specs.Fields.{end_offset}
use Rattle.strm_memory.specs.Copies.{are_good_columns}
use Rattle.strm_memory.proofs.good_items.is_good_block.Given as goal

abbrev pub invariant-loop-k : goal.invariant-loop-k
invariant-loop-k l = record {
  ends : end_offset l.at (drop l.k l.fields) ≡ end_offset 0 l.fields;
  rest : are_good_columns l.at (drop l.k l.fields) l.size (drop l.from l.source) l.count
      ≡ are_good_columns 0 l.fields l.size (drop l.from l.source) l.count;
}
