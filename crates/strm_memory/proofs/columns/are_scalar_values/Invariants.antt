use Rattle.std.proofs.Common.{◌≡◌, ◌+◌, ◌-◌, ◌*◌, ◌&&◌, drop}
use Rattle.strm_codes.specs.declared.scalars.Scalar.TheVariants.{Char}
use Rattle.strm_memory.specs.Copies.{is_good_column}
use Rattle.strm_memory.proofs.columns.are_scalar_values.Given as goal

abbrev pub invariant-loop-k : goal.invariant-loop-k
invariant-loop-k l = record {
  place : l.done ≡ l.size * l._k;
  rest : (l.good && is_good_column Char l.start l.size (drop (l.from + l.done) l.source) (l.count - l._k))
      ≡ is_good_column Char l.start l.size (drop l.from l.source) l.count;
}
