use Rattle.std.proofs.Common.{◌≡◌, map, take}
use Rattle.std.specs.Prelude.{All}
use Rattle.strm_tape.specs.Spelling.{WriterTape}
use Rattle.strm_tape_runs.specs.Taking.{writer_type, HoldsNone}
use Rattle.strm_program_tests.proofs.tape.ends.writers_fit.Given as goal

-- the writers so far fit
abbrev pub invariant-loop-n : goal.invariant-loop-n
invariant-loop-n g l =
    let told = (g.H.HostEnds.tells l.hosts).writers in
    (map writer_type (take l.n told) ≡ map (λ (w : WriterTape). w.ty) (take l.n l.tape.writers)) × All HoldsNone (take l.n told)
