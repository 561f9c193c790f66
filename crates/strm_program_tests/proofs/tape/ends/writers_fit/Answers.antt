use Rattle.std.proofs.Common.{refl, arith}
use Rattle.std.proofs.lemmas.List.Elements.{All-more}
use Rattle.strm_buffers.specs.Tells.{no_tells}
use Rattle.strm_tape.specs.Spelling.{WriterTape}
use Rattle.strm_tape_runs.specs.Taking.{writer_type, HoldsNone}
use Rattle.strm_program_tests.proofs.FitLemmas.{fits_more}
use Rattle.strm_program_tests.proofs.tape.ends.writers_fit.Goals as goal

pub loop-n-preserved : goal.loop-n-preserved
loop-n-preserved g c =
    let told = (g.H.HostEnds.tells c.args.hosts.now).writers in (
      fits_more writer_type (λ (w : WriterTape). w.ty) told c.args.tape.now.writers c.loop-n.n no_tells c.writer.result.now c.taped_type-ty.result
          (omega (arith, c.loop-n-test.true, c.writers-n-end.ensures, c.writers.ensures, c.count_writers.ensures, c.if-count_writers-writers.false)) c.writer.ensures c.taped_type-ty.ensures (c.if-not-writer_fits.ensures.types refl) c.loop-n.invariant.0,
      All-more HoldsNone told c.loop-n.n no_tells
          (omega (arith, c.loop-n-test.true, c.writers-n-end.ensures, c.writers.ensures, c.count_writers.ensures, c.if-count_writers-writers.false)) c.loop-n.invariant.1 (c.if-not-writer_fits.ensures.held refl),
    )
