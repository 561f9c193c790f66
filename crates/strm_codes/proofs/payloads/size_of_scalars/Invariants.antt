use Rattle.std.proofs.Common.{◌≡◌, ◌*◌, ◌≤◌, drop}
use Rattle.strm_codes.specs.Fields.{end_offset}
use Rattle.strm_codes.proofs.payloads.size_of_scalars.Given as goal

abbrev pub invariant-loop-scalar : goal.invariant-loop-scalar
invariant-loop-scalar l = record {
  ends : end_offset l.at (drop l.scalar-index l.scalars) ≡ end_offset 0 l.scalars;
  small : l.at ≤ 8 * l.scalar-index;
}
