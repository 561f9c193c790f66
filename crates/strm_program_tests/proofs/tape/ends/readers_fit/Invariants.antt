use Rattle.std.proofs.Common.{◌≡◌, map, take}
use Rattle.strm_tape.specs.Spelling.{ReaderTape}
use Rattle.strm_tape_runs.specs.Taking.{reader_type}
use Rattle.strm_program_tests.proofs.tape.ends.readers_fit.Given as goal

-- the readers so far fit
abbrev pub invariant-loop-r : goal.invariant-loop-r
invariant-loop-r g l =
    let told = (g.H.HostEnds.tells l.hosts).readers in
    map reader_type (take l.r told) ≡ map (λ (r : ReaderTape). r.ty) (take l.r l.tape.readers)
