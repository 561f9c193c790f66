use Rattle.std.proofs.Common.{subst, sym, ◌∙◌, arith}
use Rattle.std.specs.Prelude.{All}
use Rattle.std.proofs.lemmas.List.{take_all, nil_from_length}
use Rattle.std.proofs.lemmas.List.Elements.{All-more}
use Rattle.strm_buffers.specs.Tells.{no_tells}
use Rattle.strm_tape_runs.specs.Taking.{HoldsNone}
use Rattle.strm_tape_runs.proofs.marks.first_holding.Goals as goal

pub loop-n-preserved : goal.loop-n-preserved
loop-n-preserved g c =
    let told = (g.H.HostEnds.tells c.args.hosts.now).writers in
    All-more HoldsNone told c.loop-n.n no_tells (omega (arith, c.loop-n-test.true, c.count_writers-n-end.ensures)) c.loop-n.invariant
    (nil_from_length _ (sym c.writer_held.ensures ∙ omega (arith, c.if-writer_held-gt0.false)))

pub returns-clause-none : goal.returns-clause-none
returns-clause-none g c = λ e.
    let told = (g.H.HostEnds.tells c.args.hosts.now).writers in
    subst (All HoldsNone) (take_all c.loop-n.n told (omega (arith, c.loop-n-test.false, c.count_writers-n-end.ensures))) c.loop-n.invariant
