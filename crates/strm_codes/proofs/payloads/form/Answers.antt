use Rattle.std.proofs.Common.{refl, arith}
use Rattle.strm_codes.proofs.FormLemmas.{AreUnits, AreUnits-fields_size}
use Rattle.strm_codes.proofs.payloads.form.Goals as goal

units : (c : goal.After-size_of_scalars) → AreUnits c.args.fields.now c.size_of_scalars.result c.power-power.result
units c =
    AreUnits-fields_size c.args.fields.now c.align_of_scalars.result c.power-power.result c.size_of_scalars.result c.requires.some c.requires.most c.align_of_scalars.ensures.exact c.power-power.ensures.exact c.size_of_scalars.ensures.exact

pub overflow_sub-result-2 : goal.overflow_sub-result-2
overflow_sub-result-2 c = (units c).some

pub overflow_cast-result-2 : goal.overflow_cast-result-2
overflow_cast-result-2 c = omega (arith, (units c).most, c.power-power.ensures.most, c.requires.most)

pub returns : goal.returns
returns c = rw ((units c).are, c.power-power.ensures.exact, c.align_of_scalars.ensures.exact) refl
