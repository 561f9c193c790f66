use Rattle.std.proofs.Common.{◌≡◌, ◌≤◌, drop, max}
use Rattle.strm_codes.specs.Fields.{fields_align}
use Rattle.strm_codes.proofs.payloads.align_of_scalars.Given as goal

abbrev pub invariant-loop-scalar : goal.invariant-loop-scalar
invariant-loop-scalar l = record {
  rest : max l.align (fields_align (drop l.scalar-index l.scalars)) ≡ fields_align l.scalars;
  some : 1 ≤ l.align;
  small : l.align ≤ 8;
}
