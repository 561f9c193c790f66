use Rattle.std.proofs.Common.{◌≡◌, ◌+◌, ◌≤◌, arith, ◌∙◌, length, take, length-take-le, refl}
use Rattle.strm_memory.proofs.ByteLemmas.{length-put_at}
use Rattle.strm_memory.proofs.LimitLemmas.{repeat_first, repeat_more, item_repeated, repeat_room}
use Rattle.strm_memory.proofs.limits.repeat_limits.Goals as goal

pub loop-k-init : goal.loop-k-init
loop-k-init g c = record {
  place = omega arith;
  len = refl;
  period = repeat_first c.args.limits.now c.args.size;
}

pub store_lanes-requires : goal.store_lanes-requires
store_lanes-requires g c = (
  omega (arith, c.requires.small),
  (
    c.loop-k.auto.front.0,
    omega (arith, c.loop-k.invariant.place, c.loop-k.invariant.len, repeat_room c.args.size c.loop-k._k c.args.items g.row.N (length c.args.limits.now) (omega arith) c.requires.room),
  ),
)

pub loop-k-preserved : goal.loop-k-preserved
loop-k-preserved g c =
    let room : c.loop-k.at + g.row.N ≤ length c.loop-k.limits = omega (arith, c.loop-k.invariant.place, c.loop-k.invariant.len, repeat_room c.args.size c.loop-k._k c.args.items g.row.N (length c.args.limits.now) (omega arith) c.requires.room) in
    let wide : g.row.N ≤ length c.args.limits.now = omega (arith, repeat_room c.args.size 0 c.args.items g.row.N (length c.args.limits.now) (omega arith) c.requires.room) in
    let long = length-take-le g.row.N c.args.limits.now wide in
    record {
      place = omega (arith, c.loop-k.invariant.place);
      len = rw c.store_lanes.ensures (length-put_at c.loop-k.limits c.loop-k.at (take g.row.N c.args.limits.now) (omega (arith, long)) ∙ c.loop-k.invariant.len);
      period = rw c.store_lanes.ensures (repeat_more c.loop-k.limits c.args.limits.now c.args.size c.loop-k.at c.loop-k._k g.row.N c.loop-k.invariant.place c.requires.whole room wide c.loop-k.invariant.period);
    }

pub returns-clause-item : goal.returns-clause-item
returns-clause-item g c =
    let wide : g.row.N ≤ length c.args.limits.now = omega (arith, repeat_room c.args.size 0 c.args.items g.row.N (length c.args.limits.now) (omega arith) c.requires.room) in
    let e : c.loop-k._k ≡ c.args.items = omega arith in
    item_repeated c.loop-k.limits (take c.args.size c.args.limits.now) c.args.size c.args.items c.requires.some (length-take-le c.args.size c.args.limits.now (omega (arith, wide, c.requires.whole))) (rw e at c.loop-k.invariant.period)
