use Rattle.std.proofs.Common.{drop}
use Rattle.strm_codes.specs.Fields.{FitsFields}
use Rattle.strm_codes.proofs.values.fit_scalars.Given as goal

abbrev pub invariant-loop-k : goal.invariant-loop-k
invariant-loop-k l = record {
  onward : FitsFields l.scalars l.numbers → FitsFields (drop l.k l.scalars) (drop l.k l.numbers);
  back : FitsFields (drop l.k l.scalars) (drop l.k l.numbers) → FitsFields l.scalars l.numbers;
}
