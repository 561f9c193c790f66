use Rattle.std.proofs.Common.{arith, refl}
use Rattle.strm_codes.proofs.ValueLemmas.{AreNumbers-new}
use Rattle.strm_codes.proofs.values.Value.new.Goals as goal

pub invariant_of-result : goal.invariant_of-result
invariant_of-result c = rw c.copy_from_slice.ensures.after (AreNumbers-new c.args.numbers.now (omega arith) (c.if-not-are_numbers.ensures.0 refl))
