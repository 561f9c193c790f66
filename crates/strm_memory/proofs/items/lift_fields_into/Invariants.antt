use Rattle.std.proofs.Common.{◌≡◌, ◌+◌, drop, length}
use Rattle.strm_codes.specs.Fields.{end_offset}
use Rattle.strm_memory.specs.FieldItems.{decode_from}
use Rattle.strm_memory.proofs.FieldLemmas.{with_front}
use Rattle.strm_memory.proofs.items.lift_fields_into.Given as goal

abbrev pub invariant-loop-k : goal.invariant-loop-k
invariant-loop-k l = record {
  ends : end_offset l.at (drop l.k l.fields) ≡ end_offset 0 l.fields;
  whole : length l.item ≡ l.k;
  rest : with_front l.item (decode_from l.at (drop l.k l.fields) (drop (l.from + l.at) l.bytes)) ≡ decode_from 0 l.fields (drop l.from l.bytes);
}
