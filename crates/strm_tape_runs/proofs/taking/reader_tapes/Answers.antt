use Rattle.std.proofs.Common.{[], ◌∷◌, ◌++◌, ap, ◌∙◌, arith}
use Rattle.std.proofs.lemmas.List.Elements.{All-same, All-push}
use Rattle.strm_buffers.specs.Tells.{no_reader_tells}
use Rattle.strm_tape.specs.Spelling.{ReaderTape, IsReaderTape}
use Rattle.strm_tape_runs.specs.Marks.{reader_behind, ReaderTapable}
use Rattle.strm_tape_runs.proofs.ZipLemmas.{zipped_length, zip_with_all, zipped_here, zipped_more}
use Rattle.strm_tape_runs.proofs.taking.reader_tapes.Goals as goal

pub reader_tape-requires : goal.reader_tape-requires
reader_tape-requires g c =
    let told = (g.H.HostEnds.tells c.args.hosts.now).readers in
    record {
      there = omega (arith, zipped_length ReaderTapable c.args.marks.now told c.requires.tapable, c.loop-r-test.true);
      tapable = zipped_here ReaderTapable c.args.marks.now told c.loop-r.r c.index-marks-r.result no_reader_tells c.index-marks-r.is c.requires.tapable c.loop-r-test.true;
    }

pub loop-r-preserved : goal.loop-r-preserved
loop-r-preserved g c =
    let told = (g.H.HostEnds.tells c.args.hosts.now).readers in (
      zipped_more ReaderTapable reader_behind c.args.marks.now told c.loop-r.r c.index-marks-r.result no_reader_tells c.index-marks-r.is
          c.loop-r.tapes.items c.push_reader_tape.new.tapes.items c.requires.tapable c.loop-r-test.true c.loop-r.invariant.0
          (c.in_ok-push_reader_tape.ensures ∙ ap (λ (x : ReaderTape). c.loop-r.tapes.items ++ x ∷ []) c.in_ok-tape.ensures.tape),
      All-same IsReaderTape _ _ c.in_ok-push_reader_tape.ensures (All-push IsReaderTape c.loop-r.tapes.items c.in_ok-tape.tape c.loop-r.invariant.1 c.in_ok-tape.ensures.sound),
    )

pub returns-clause-tapes : goal.returns-clause-tapes
returns-clause-tapes g c =
    zip_with_all reader_behind c.args.marks.now (g.H.HostEnds.tells c.args.hosts.now).readers c.loop-r.r c.loop-r.tapes.items
    (zipped_length ReaderTapable c.args.marks.now _ c.requires.tapable) (omega (arith, c.loop-r-test.false)) c.loop-r.invariant.0
