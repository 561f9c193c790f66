use Rattle.std.proofs.Common.{◌≡◌, ◌<◌, length, drop, get_or, ap, subst, refl, arith}
use Rattle.std.proofs.lemmas.List.Elements.{All-get_or}
use Rattle.std.proofs.lemmas.Option.{slice_get-get_or, slice_get_within, get_or_from_slice_get}
use Rattle.strm_buffers.specs.Tells.{told_by_reader, no_reader_tells}
use Rattle.strm_tape.specs.Spelling.{ReaderTape, IsReaderTape}
use Rattle.strm_tape_runs.specs.declared.marks.Mark.{Mark}
use Rattle.strm_tape_runs.specs.Differing.{DifferFirst}
use Rattle.strm_tape_runs.specs.Marks.{reader_behind, ReaderReached}
use Rattle.strm_tape_runs.proofs.ZipLemmas.{zipped_here, zipped_length}
use Rattle.strm_tape_runs.proofs.DifferLemmas.{same_lengths, read_at, behind_mark, differs_behind, none_differs, one_more_same, next_differs}
use Rattle.strm_tape_runs.proofs.differing.readers_difference.Goals as goal

whole : (x y : ReaderTape) → x.ty ≡ y.ty → x.said ≡ y.said → x ≡ y
whole x y e f i = record { ty = e i; said = f i }

pub reader_difference-requires-clause-there : goal.reader_difference-requires-clause-there
reader_difference-requires-clause-there g c =
    let inside : c.loop-r.r < length c.args.marks.now = omega (arith, c.loop-r-test.true, c.readers-r-end.ensures, same_lengths (λ (m : Mark). m.ty) (λ (t : ReaderTape). t.ty) c.args.marks.now c.args.tape.now.readers c.requires.types) in
    omega (arith, inside, zipped_length ReaderReached c.args.marks.now (g.H.HostEnds.tells c.args.hosts.now).readers c.requires.reached)

pub reader_difference-requires-clause-added : goal.reader_difference-requires-clause-added
reader_difference-requires-clause-added g c =
    let inside : c.loop-r.r < length c.args.marks.now = omega (arith, c.loop-r-test.true, c.readers-r-end.ensures, same_lengths (λ (m : Mark). m.ty) (λ (t : ReaderTape). t.ty) c.args.marks.now c.args.tape.now.readers c.requires.types) in
    let reached = zipped_here ReaderReached c.args.marks.now (g.H.HostEnds.tells c.args.hosts.now).readers c.loop-r.r c.index-marks-r.result no_reader_tells c.index-marks-r.is c.requires.reached inside in
    omega (arith, reached, ap (λ (m : Mark). m.records) c.index-marks-r.is)

pub reader_difference-requires-clause-few : goal.reader_difference-requires-clause-few
reader_difference-requires-clause-few g c =
    let there = slice_get_within c.args.tape.now.readers c.loop-r.r c.reader.result.now c.reader.ensures in
    let sound = subst IsReaderTape (get_or_from_slice_get c.args.tape.now.readers c.loop-r.r c.reader.result.now c.reader.result.now c.reader.ensures) (All-get_or IsReaderTape c.args.tape.now.readers c.loop-r.r c.reader.result.now there c.sound.ensures.readers) in
    omega (arith, sound.few, ap (λ xs. length xs) c.reader_said-said.ensures)

pub returns-in-Some-clause-differ : goal.returns-in-Some-clause-differ
returns-in-Some-clause-differ g c =
    let inside : c.loop-r.r < length c.args.marks.now = omega (arith, c.loop-r-test.true, c.readers-r-end.ensures, same_lengths (λ (m : Mark). m.ty) (λ (t : ReaderTape). t.ty) c.args.marks.now c.args.tape.now.readers c.requires.types) in
    let differs : DifferFirst c.in-Some.at (drop (get_or c.args.marks.now c.loop-r.r c.index-marks-r.result).records (told_by_reader (g.H.HostEnds.tells c.args.hosts.now) c.loop-r.r).said) c.reader_said-said.result.now = c.in-Some.ensures.differ in (
      refl,
      (
        c.loop-r.invariant,
        next_differs reader_behind (λ (t : ReaderTape). t.ty) (λ (t : ReaderTape). t.said) whole (λ m t. refl) c.args.marks.now (g.H.HostEnds.tells c.args.hosts.now).readers c.args.tape.now.readers (zipped_length ReaderReached c.args.marks.now _ c.requires.reached) c.requires.types
            c.loop-r.r c.index-marks-r.result _ c.reader.result.now (read_at c.args.marks.now c.loop-r.r c.index-marks-r.result inside c.index-marks-r.is)
            (slice_get-get_or (g.H.HostEnds.tells c.args.hosts.now).readers c.loop-r.r no_reader_tells (omega (arith, inside, zipped_length ReaderReached c.args.marks.now (g.H.HostEnds.tells c.args.hosts.now).readers c.requires.reached)))
            c.reader.ensures
            c.in-Some.at (differs_behind (told_by_reader (g.H.HostEnds.tells c.args.hosts.now) c.loop-r.r).said c.reader_said-said.result.now c.reader.result.now.said c.index-marks-r.result _ c.in-Some.at c.index-marks-r.is c.reader_said-said.ensures differs),
      ),
    )

pub loop-r-preserved : goal.loop-r-preserved
loop-r-preserved g c =
    let inside : c.loop-r.r < length c.args.marks.now = omega (arith, c.loop-r-test.true, c.readers-r-end.ensures, same_lengths (λ (m : Mark). m.ty) (λ (t : ReaderTape). t.ty) c.args.marks.now c.args.tape.now.readers c.requires.types) in
    one_more_same reader_behind (λ (t : ReaderTape). t.ty) (λ (t : ReaderTape). t.said) whole (λ m t. refl) c.args.marks.now (g.H.HostEnds.tells c.args.hosts.now).readers c.args.tape.now.readers (zipped_length ReaderReached c.args.marks.now _ c.requires.reached) c.requires.types
    c.loop-r.r c.index-marks-r.result _ c.reader.result.now (read_at c.args.marks.now c.loop-r.r c.index-marks-r.result inside c.index-marks-r.is)
    (slice_get-get_or (g.H.HostEnds.tells c.args.hosts.now).readers c.loop-r.r no_reader_tells (omega (arith, inside, zipped_length ReaderReached c.args.marks.now (g.H.HostEnds.tells c.args.hosts.now).readers c.requires.reached)))
    c.reader.ensures
    (behind_mark (told_by_reader (g.H.HostEnds.tells c.args.hosts.now) c.loop-r.r).said c.reader_said-said.result.now c.reader.result.now.said c.index-marks-r.result _ c.index-marks-r.is c.reader_said-said.ensures (c.in-None.ensures.same refl)) c.loop-r.invariant

pub returns-clause-same : goal.returns-clause-same
returns-clause-same g c = λ e.
    none_differs reader_behind (λ (t : ReaderTape). t.ty) (λ (t : ReaderTape). t.said) whole (λ m t. refl) c.args.marks.now (g.H.HostEnds.tells c.args.hosts.now).readers c.args.tape.now.readers (zipped_length ReaderReached c.args.marks.now _ c.requires.reached) c.requires.types
    c.loop-r.r (omega (arith, c.loop-r-test.false, c.readers-r-end.ensures)) c.loop-r.invariant
