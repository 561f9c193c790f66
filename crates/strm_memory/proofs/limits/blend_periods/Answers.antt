use Rattle.std.proofs.Common.{◌≤◌, ◌-◌, arith, ◌∙◌, length}
use Rattle.strm_memory.proofs.LimitLemmas.{periods_more, periods_front, item_within}
use Rattle.strm_memory.proofs.limits.blend_periods.Goals as goal

pub loop-done-preserved : goal.loop-done-preserved
loop-done-preserved c =
    let item : c.args.size ≤ length c.args.limits.now = item_within c.args.len c.args.size c.args.items (length c.args.limits.now) c.requires.some c.requires.len c.requires.limits_hold in
    record {
      inside = omega arith;
      rest = rw c.blend_front.ensures
          (periods_more c.args.limits.now c.args.source.now c.loop-done.destination c.args.len c.args.size c.args.items c.args.count c.loop-done.done c.args.from c.args.to c.requires.len item c.requires.period (omega arith) c.requires.source_holds (omega arith)
          ∙ c.loop-done.invariant.rest);
    }

pub returns : goal.returns
returns c =
    let item : c.args.size ≤ length c.args.limits.now = item_within c.args.len c.args.size c.args.items (length c.args.limits.now) c.requires.some c.requires.len c.requires.limits_hold in
    rw (c.blend_front-2.ensures, periods_front c.args.limits.now c.args.len c.args.size c.args.items (c.args.count - c.loop-done.done) c.requires.len item c.requires.period (omega arith))
    c.loop-done.invariant.rest
