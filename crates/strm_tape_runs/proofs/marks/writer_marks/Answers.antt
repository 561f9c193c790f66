use Rattle.std.proofs.Common.{ap, ◌∷◌, ◌++◌, [], ◌∙◌, arith}
use Rattle.strm_buffers.specs.Tells.{no_tells}
use Rattle.strm_tape_runs.specs.declared.marks.Mark.{Mark}
use Rattle.strm_tape_runs.specs.Marks.{mark_of}
use Rattle.strm_tape_runs.proofs.MarkLemmas.{seen_next, all_seen}
use Rattle.strm_tape_runs.proofs.marks.writer_marks.Goals as goal

pub loop-n-preserved : goal.loop-n-preserved
loop-n-preserved g c =
    seen_next mark_of (g.H.HostEnds.tells c.args.hosts.now).writers c.loop-n.n no_tells c.loop-n.marks.items _
    (omega (arith, c.loop-n-test.true, c.count_writers-n-end.ensures)) c.loop-n.invariant
    (c.in_ok-push_item.ensures ∙ ap (λ (m : Mark). c.loop-n.marks.items ++ m ∷ []) c.writer_mark.ensures)

pub returns : goal.returns
returns g c =
    all_seen mark_of (g.H.HostEnds.tells c.args.hosts.now).writers c.loop-n.n c.loop-n.marks.items
    (omega (arith, c.loop-n-test.false, c.count_writers-n-end.ensures)) c.loop-n.invariant
