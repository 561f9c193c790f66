use Rattle.std.proofs.Common.{◌≡◌, ◌<◌, length, drop, get_or, ap, refl, arith}
use Rattle.std.proofs.lemmas.Option.{slice_get-get_or}
use Rattle.strm_buffers.specs.Tells.{told_by, no_tells}
use Rattle.strm_tape.specs.Spelling.{WriterTape}
use Rattle.strm_tape_runs.specs.declared.marks.Mark.{Mark}
use Rattle.strm_tape_runs.specs.Differing.{DifferFirst}
use Rattle.strm_tape_runs.specs.Marks.{writer_behind, IsMarkReached}
use Rattle.strm_tape_runs.proofs.ZipLemmas.{zipped_here, zipped_length}
use Rattle.strm_tape_runs.proofs.DifferLemmas.{same_lengths, read_at, behind_mark, differs_behind, none_differs, one_more_same, next_differs}
use Rattle.strm_tape_runs.proofs.differing.writers_difference.Goals as goal

whole : (x y : WriterTape) → x.ty ≡ y.ty → x.said ≡ y.said → x ≡ y
whole x y e f i = record { ty = e i; said = f i }

pub writer_difference-requires-clause-there : goal.writer_difference-requires-clause-there
writer_difference-requires-clause-there g c =
    let inside : c.loop-n.n < length c.args.marks.now = omega (arith, c.loop-n-test.true, c.writers-n-end.ensures, same_lengths (λ (m : Mark). m.ty) (λ (t : WriterTape). t.ty) c.args.marks.now c.args.tape.now.writers c.requires.types) in
    omega (arith, inside, zipped_length IsMarkReached c.args.marks.now (g.H.HostEnds.tells c.args.hosts.now).writers c.requires.reached)

pub writer_difference-requires-clause-added : goal.writer_difference-requires-clause-added
writer_difference-requires-clause-added g c =
    let inside : c.loop-n.n < length c.args.marks.now = omega (arith, c.loop-n-test.true, c.writers-n-end.ensures, same_lengths (λ (m : Mark). m.ty) (λ (t : WriterTape). t.ty) c.args.marks.now c.args.tape.now.writers c.requires.types) in
    let reached = zipped_here IsMarkReached c.args.marks.now (g.H.HostEnds.tells c.args.hosts.now).writers c.loop-n.n c.index-marks-n.result no_tells c.index-marks-n.is c.requires.reached inside in
    omega (arith, reached, ap (λ (m : Mark). m.records) c.index-marks-n.is)

pub returns-in-Some-clause-differ : goal.returns-in-Some-clause-differ
returns-in-Some-clause-differ g c =
    let inside : c.loop-n.n < length c.args.marks.now = omega (arith, c.loop-n-test.true, c.writers-n-end.ensures, same_lengths (λ (m : Mark). m.ty) (λ (t : WriterTape). t.ty) c.args.marks.now c.args.tape.now.writers c.requires.types) in
    let differs : DifferFirst c.in-Some.at (drop (get_or c.args.marks.now c.loop-n.n c.index-marks-n.result).records (told_by (g.H.HostEnds.tells c.args.hosts.now) c.loop-n.n).said) c.writer.result.now.said = (rw c.in-Some.is at c.in_ok-at.ensures.differ) in (
      refl,
      (
        c.loop-n.invariant,
        next_differs writer_behind (λ (t : WriterTape). t.ty) (λ (t : WriterTape). t.said) whole (λ m t. refl) c.args.marks.now (g.H.HostEnds.tells c.args.hosts.now).writers c.args.tape.now.writers (zipped_length IsMarkReached c.args.marks.now _ c.requires.reached) c.requires.types
            c.loop-n.n c.index-marks-n.result _ c.writer.result.now (read_at c.args.marks.now c.loop-n.n c.index-marks-n.result inside c.index-marks-n.is)
            (slice_get-get_or (g.H.HostEnds.tells c.args.hosts.now).writers c.loop-n.n no_tells (omega (arith, inside, zipped_length IsMarkReached c.args.marks.now (g.H.HostEnds.tells c.args.hosts.now).writers c.requires.reached)))
            c.writer.ensures
            c.in-Some.at (differs_behind (told_by (g.H.HostEnds.tells c.args.hosts.now) c.loop-n.n).said c.writer.result.now.said c.writer.result.now.said c.index-marks-n.result _ c.in-Some.at c.index-marks-n.is refl differs),
      ),
    )

pub loop-n-preserved : goal.loop-n-preserved
loop-n-preserved g c =
    let inside : c.loop-n.n < length c.args.marks.now = omega (arith, c.loop-n-test.true, c.writers-n-end.ensures, same_lengths (λ (m : Mark). m.ty) (λ (t : WriterTape). t.ty) c.args.marks.now c.args.tape.now.writers c.requires.types) in
    one_more_same writer_behind (λ (t : WriterTape). t.ty) (λ (t : WriterTape). t.said) whole (λ m t. refl) c.args.marks.now (g.H.HostEnds.tells c.args.hosts.now).writers c.args.tape.now.writers (zipped_length IsMarkReached c.args.marks.now _ c.requires.reached) c.requires.types
    c.loop-n.n c.index-marks-n.result _ c.writer.result.now (read_at c.args.marks.now c.loop-n.n c.index-marks-n.result inside c.index-marks-n.is)
    (slice_get-get_or (g.H.HostEnds.tells c.args.hosts.now).writers c.loop-n.n no_tells (omega (arith, inside, zipped_length IsMarkReached c.args.marks.now (g.H.HostEnds.tells c.args.hosts.now).writers c.requires.reached)))
    c.writer.ensures
    (behind_mark (told_by (g.H.HostEnds.tells c.args.hosts.now) c.loop-n.n).said c.writer.result.now.said c.writer.result.now.said c.index-marks-n.result _ c.index-marks-n.is refl (c.in_ok-at.ensures.same c.in_default.is)) c.loop-n.invariant

pub returns-clause-same : goal.returns-clause-same
returns-clause-same g c = λ e.
    none_differs writer_behind (λ (t : WriterTape). t.ty) (λ (t : WriterTape). t.said) whole (λ m t. refl) c.args.marks.now (g.H.HostEnds.tells c.args.hosts.now).writers c.args.tape.now.writers (zipped_length IsMarkReached c.args.marks.now _ c.requires.reached) c.requires.types
    c.loop-n.n (omega (arith, c.loop-n-test.false, c.writers-n-end.ensures)) c.loop-n.invariant
