use Rattle.std.proofs.Common.{◌≡◌, ◌+◌, ◌++◌, take, drop}
use Rattle.strm_codes.specs.Fields.{end_offset, FitsFields}
use Rattle.strm_memory.specs.FieldItems.{encode_from}
use Rattle.strm_memory.proofs.items.lower_fields.Given as goal

abbrev pub invariant-loop-k : goal.invariant-loop-k
invariant-loop-k l = record {
  ends : end_offset l.at (drop l.k l.fields) ≡ end_offset 0 l.fields;
  fits : FitsFields (drop l.k l.fields) (drop l.k l.numbers);
  rest : take (l.to + l.at) l.bytes
      ++ encode_from l.at (drop l.k l.fields) (drop (l.to + l.at) l.bytes) (drop l.k l.numbers)
      ≡ take l.to l.fn.bytes ++ encode_from 0 l.fields (drop l.to l.fn.bytes) l.value;
}
