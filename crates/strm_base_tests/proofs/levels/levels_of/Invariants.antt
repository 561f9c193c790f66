use Rattle.std.proofs.Common.{◌≡◌, replicate}
use Rattle.strm_base_tests.proofs.levels.levels_of.Given as goal

abbrev pub invariant-loop : goal.invariant-loop
invariant-loop l = l.levels ≡ replicate l.counter 0
