use Rattle.std.proofs.Common.{arith}
use Rattle.strm_codes.proofs.LayoutLemmas.{one-le-fields_align}
use Rattle.strm_codes.proofs.payloads.align_of_scalars.Goals as goal

pub loop-scalar-init : goal.loop-scalar-init
loop-scalar-init c = record {
  rest = omega (arith, one-le-fields_align c.args.scalars.now);
  some = omega arith;
  small = omega arith;
}
