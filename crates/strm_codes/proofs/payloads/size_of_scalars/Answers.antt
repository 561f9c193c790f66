use Rattle.std.proofs.Common.{arith}
use Rattle.strm_codes.specs.Fields.{fields_align}
use Rattle.strm_codes.proofs.LayoutLemmas.{IsWidth-fields_align, gap_within}
use Rattle.strm_codes.proofs.payloads.size_of_scalars.Goals as goal

pub returns-clause-most : goal.returns-clause-most
returns-clause-most c =
    let within = gap_within (fields_align c.args.scalars.now) c.loop-scalar.at c.loop-scalar.scalar-index (IsWidth-fields_align c.args.scalars.now) c.loop-scalar.invariant.small in
    rw (c.gap.ensures, c.align_of_scalars.ensures.exact) (omega (arith, within))
