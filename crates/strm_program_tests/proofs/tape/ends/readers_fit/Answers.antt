use Rattle.std.proofs.Common.{refl, arith}
use Rattle.strm_buffers.specs.Tells.{no_reader_tells}
use Rattle.strm_tape.specs.Spelling.{ReaderTape}
use Rattle.strm_tape_runs.specs.Taking.{reader_type}
use Rattle.strm_program_tests.proofs.FitLemmas.{fits_more}
use Rattle.strm_program_tests.proofs.tape.ends.readers_fit.Goals as goal

pub loop-r-preserved : goal.loop-r-preserved
loop-r-preserved g c =
    let told = (g.H.HostEnds.tells c.args.hosts.now).readers in
    fits_more reader_type (λ (r : ReaderTape). r.ty) told c.args.tape.now.readers c.loop-r.r no_reader_tells c.reader.result.now c.taped_reader_type-ty.result
    (omega (arith, c.loop-r-test.true, c.readers-r-end.ensures, c.readers.ensures, c.count_readers.ensures, c.if-count_readers-readers.false)) c.reader.ensures c.taped_reader_type-ty.ensures (c.if-not-reader_fits.ensures refl) c.loop-r.invariant
