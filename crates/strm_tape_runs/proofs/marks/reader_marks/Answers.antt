use Rattle.std.proofs.Common.{ap, ◌∷◌, ◌++◌, [], ◌∙◌, arith}
use Rattle.strm_buffers.specs.Tells.{no_reader_tells}
use Rattle.strm_tape_runs.specs.declared.marks.Mark.{Mark}
use Rattle.strm_tape_runs.specs.Marks.{reader_mark_of}
use Rattle.strm_tape_runs.proofs.MarkLemmas.{seen_next, all_seen}
use Rattle.strm_tape_runs.proofs.marks.reader_marks.Goals as goal

pub loop-r-preserved : goal.loop-r-preserved
loop-r-preserved g c =
    seen_next reader_mark_of (g.H.HostEnds.tells c.args.hosts.now).readers c.loop-r.r no_reader_tells c.loop-r.marks.items _
    (omega (arith, c.loop-r-test.true, c.count_readers-r-end.ensures)) c.loop-r.invariant
    (c.in_ok-push_item.ensures ∙ ap (λ (m : Mark). c.loop-r.marks.items ++ m ∷ []) c.reader_mark.ensures)

pub returns : goal.returns
returns g c =
    all_seen reader_mark_of (g.H.HostEnds.tells c.args.hosts.now).readers c.loop-r.r c.loop-r.marks.items
    (omega (arith, c.loop-r-test.false, c.count_readers-r-end.ensures)) c.loop-r.invariant
