use Rattle.std.proofs.Common.{◌≡◌, true, take}
use Rattle.std.specs.List.{list_all}
use Rattle.std.specs.Prelude.{nat_lt}
use Rattle.strm_codes.specs.Sameness.{scalar_number}
use Rattle.strm_tape.proofs.versions.are_first_scalars.Given as goal

abbrev pub invariant-loop-k : goal.invariant-loop-k
invariant-loop-k l = list_all (λ s. nat_lt (scalar_number s) 10) (take l.k l.scalars) ≡ true
