use Rattle.std.proofs.Common.{◌+◌, ◌-◌, ◌/◌, ◌<◌, length, arith}
use Rattle.strm_waitable_sets.proofs.ReadyLemmas.{before_more, behind_more}
use Rattle.strm_waitable_sets.proofs.ready.above.Goals as goal

pub loop-low-preserved-then-handles-middle : goal.loop-low-preserved-then-handles-middle
loop-low-preserved-then-handles-middle c =
    let middle = c.loop-low.low + (c.loop-low.high - c.loop-low.low) / 2 in
    let less : middle < c.loop-low.high = omega (arith, c.loop-low-test.true) in
    let inside : middle < length c.args.handles.now = omega (arith, less, c.loop-low.invariant.1) in
    (omega (arith, less), c.loop-low.invariant.1, before_more c.args.handles.now middle c.args.handle c.requires inside c.if-handles-middle.true, c.loop-low.invariant.3)

pub loop-low-preserved : goal.loop-low-preserved
loop-low-preserved c =
    let middle = c.loop-low.low + (c.loop-low.high - c.loop-low.low) / 2 in
    let less : middle < c.loop-low.high = omega (arith, c.loop-low-test.true) in
    (omega arith, omega (arith, less, c.loop-low.invariant.1), c.loop-low.invariant.2, behind_more c.args.handles.now middle c.args.handle c.requires c.if-handles-middle.false)
