use Rattle.std.proofs.Common.{ap, length, arith}
use Rattle.std.proofs.lemmas.List.{nil_from_length}
use Rattle.strm_drawing.proofs.RunLemmas.{sketching_begins, sketching_more, drawn_stop, drawn_all}
use Rattle.strm_drawing.proofs.running.draw_steps.Goals as goal

pub loop-init : goal.loop-init
loop-init g c = (
  sketching_begins _ _ _ _ _ c.requires.begins c.requires.none c.requires.unmade c.requires.fits,
  c.requires.folding,
  omega arith,
)

pub loop-preserved : goal.loop-preserved
loop-preserved g c =
    let i = c.loop.invariant in
    let now = c.in-Ok.ensures in
    let one = ap length c.put_next.ensures in (
      sketching_more _ _ _ _ _ _ c.put_next.new.step _ _ _ _ _ i.0 c.put_next.ensures _ now.drawn now.fits now.running,
      now.folding,
      omega (arith, one, i.2),
    )

pub returns-in-Err-clause-drawn : goal.returns-in-Err-clause-drawn
returns-in-Err-clause-drawn g c =
    let i = c.loop.invariant in
    drawn_stop _ _ _ _ _ _ c.put_next.new.step _ _ _ _ _ i.0 c.put_next.ensures c.in-Err.cause c.in-Err.ensures.stopped

pub returns-clause-drawn : goal.returns-clause-drawn
returns-clause-drawn g c =
    let i = c.loop.invariant in
    drawn_all _ _ _ _ _ _ _ i.0 (nil_from_length _ (omega (arith, c.loop.auto.counter-end, c.loop-test.false, c.len-end.ensures, i.2)))
