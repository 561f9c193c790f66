use Rattle.std.proofs.Common.{◌+◌, ◌≤◌, arith, length, refl}
use Rattle.strm_frames.specs.Frames.{Data, End, encoding}
use Rattle.strm_frames.proofs.TakingLemmas.{shorter, counts_none, counts_data, counts_other, counts_end, counts_fit}
use Rattle.strm_frames.proofs.taking.count.Goals as goal

pub frames-init : goal.frames-init
frames-init c = counts_none c.args.bytes.now c.args.lane

pub overflow_add-total : goal.overflow_add-total
overflow_add-total c =
    let fit : c.frames.total + length c.in-Data.data.now ≤ length c.args.bytes.now = counts_fit c.args.bytes.now c.frames.rest.now c.in-Data.more.now c.in-Data.data.now c.args.lane c.frames.total c.in-Data.named (λ i. omega (arith, c.type_inv.bytes i)) c.frames.invariant c.in-Data.ensures in
    omega arith

pub frames-smaller-then-named-lane : goal.frames-smaller-then-named-lane
frames-smaller-then-named-lane c = shorter (Data c.in-Data.named c.in-Data.data.now) c.args.bytes.now (encoding c.frames.invariant.frames) c.frames.rest.now c.in-Data.more.now (λ i. omega (arith, c.type_inv.bytes i)) c.frames.invariant.whole c.in-Data.ensures

pub frames-preserved-then-named-lane : goal.frames-preserved-then-named-lane
frames-preserved-then-named-lane c = counts_data c.args.bytes.now c.frames.rest.now c.in-Data.more.now c.in-Data.data.now c.args.lane c.frames.total _ c.in-Data.named (λ i. omega (arith, c.type_inv.bytes i)) c.frames.invariant c.in-Data.ensures c.if-named-lane.true refl

pub frames-smaller-else-named-lane : goal.frames-smaller-else-named-lane
frames-smaller-else-named-lane c = shorter (Data c.in-Data.named c.in-Data.data.now) c.args.bytes.now (encoding c.frames.invariant.frames) c.frames.rest.now c.in-Data.more.now (λ i. omega (arith, c.type_inv.bytes i)) c.frames.invariant.whole c.in-Data.ensures

pub frames-preserved-else-named-lane : goal.frames-preserved-else-named-lane
frames-preserved-else-named-lane c = counts_other c.args.bytes.now c.frames.rest.now c.in-Data.more.now c.in-Data.data.now c.args.lane c.frames.total c.in-Data.named (λ i. omega (arith, c.type_inv.bytes i)) c.frames.invariant c.in-Data.ensures c.if-named-lane.false

pub frames-smaller : goal.frames-smaller
frames-smaller c = shorter (End c.in-End.lane) c.args.bytes.now (encoding c.frames.invariant.frames) c.frames.rest.now c.in-End.more.now (λ i. omega (arith, c.type_inv.bytes i)) c.frames.invariant.whole c.in-End.ensures

pub frames-preserved : goal.frames-preserved
frames-preserved c = counts_end c.args.bytes.now c.frames.rest.now c.in-End.more.now c.args.lane c.frames.total c.in-End.lane (λ i. omega (arith, c.type_inv.bytes i)) c.frames.invariant c.in-End.ensures
