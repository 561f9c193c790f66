use Rattle.std.proofs.Common.{◌≡◌, take, map}
use Rattle.strm_program_ends.specs.Scripts.{turn_of_bytes}
use Rattle.strm_program_ends.proofs.byte_scripts.turns_of_bytes.Given as goal

abbrev pub invariant-loop-k : goal.invariant-loop-k
invariant-loop-k l = l.all.items ≡ map (λ turn. turn_of_bytes turn.0.now turn.1) (take l.k l.turns)
