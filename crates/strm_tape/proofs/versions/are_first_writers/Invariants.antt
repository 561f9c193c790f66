use Rattle.std.proofs.Common.{◌≡◌, true, take}
use Rattle.std.specs.List.{list_all}
use Rattle.strm_codes.specs.Types.{payload_of}
use Rattle.strm_tape.specs.Spelling.{is_first_payload}
use Rattle.strm_tape.proofs.versions.are_first_writers.Given as goal

abbrev pub invariant-loop-k : goal.invariant-loop-k
invariant-loop-k l = list_all (λ writer. is_first_payload (payload_of writer.ty)) (take l.k l.writers) ≡ true
