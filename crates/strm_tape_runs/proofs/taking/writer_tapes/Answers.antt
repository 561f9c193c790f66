use Rattle.std.proofs.Common.{[], ◌∷◌, ◌++◌, ap, ◌∙◌, arith}
use Rattle.std.proofs.lemmas.List.Elements.{All-same, All-push}
use Rattle.strm_buffers.specs.Tells.{no_tells}
use Rattle.strm_tape.specs.Spelling.{WriterTape, IsWriterTape}
use Rattle.strm_tape_runs.specs.Marks.{writer_behind, IsTapable}
use Rattle.strm_tape_runs.proofs.ZipLemmas.{zipped_length, zip_with_all, zipped_here, zipped_more}
use Rattle.strm_tape_runs.proofs.taking.writer_tapes.Goals as goal

pub writer_tape-requires : goal.writer_tape-requires
writer_tape-requires g c =
    let told = (g.H.HostEnds.tells c.args.hosts.now).writers in
    record {
      there = omega (arith, zipped_length IsTapable c.args.marks.now told c.requires.tapable, c.loop-n-test.true);
      tapable = zipped_here IsTapable c.args.marks.now told c.loop-n.n c.index-marks-n.result no_tells c.index-marks-n.is c.requires.tapable c.loop-n-test.true;
    }

pub loop-n-preserved : goal.loop-n-preserved
loop-n-preserved g c =
    let told = (g.H.HostEnds.tells c.args.hosts.now).writers in (
      zipped_more IsTapable writer_behind c.args.marks.now told c.loop-n.n c.index-marks-n.result no_tells c.index-marks-n.is
          c.loop-n.tapes.items c.push_writer_tape.new.tapes.items c.requires.tapable c.loop-n-test.true c.loop-n.invariant.0
          (c.in_ok-push_writer_tape.ensures ∙ ap (λ (x : WriterTape). c.loop-n.tapes.items ++ x ∷ []) c.in_ok-tape.ensures.tape),
      All-same IsWriterTape _ _ c.in_ok-push_writer_tape.ensures (All-push IsWriterTape c.loop-n.tapes.items c.in_ok-tape.tape c.loop-n.invariant.1 c.in_ok-tape.ensures.sound),
    )

pub returns-clause-tapes : goal.returns-clause-tapes
returns-clause-tapes g c =
    zip_with_all writer_behind c.args.marks.now (g.H.HostEnds.tells c.args.hosts.now).writers c.loop-n.n c.loop-n.tapes.items
    (zipped_length IsTapable c.args.marks.now _ c.requires.tapable) (omega (arith, c.loop-n-test.false)) c.loop-n.invariant.0
