use Rattle.std.proofs.Common.{◌≡◌, ◌-◌, ◌++◌, length, take, drop, replicate}
use Rattle.strm_codes.specs.Fields.{end_offset}
use Rattle.strm_memory.specs.Copies.{limits_from}
use Rattle.strm_memory.proofs.limits.limit_fields.Given as goal

abbrev pub invariant-loop-k : goal.invariant-loop-k
invariant-loop-k l = record {
  len : length l.limits ≡ 176;
  ends : end_offset l.at (drop l.k l.fields) ≡ end_offset 0 l.fields;
  done : take l.at l.limits ++ limits_from l.at (drop l.k l.fields) ≡ limits_from 0 l.fields;
  zeros : drop l.at l.limits ≡ replicate (176 - l.at) 0;
}
