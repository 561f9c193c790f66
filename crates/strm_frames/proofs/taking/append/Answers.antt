use Rattle.std.proofs.Common.{◌≡◌, map, length, arith, refl}
use Rattle.std.proofs.lemmas.List.{length-map}
use Rattle.strm_frames.specs.Frames.{Data, End, encoding}
use Rattle.strm_frames.proofs.TakingLemmas.{shorter, appends_none, appends_data, appends_end, appends_some}
use Rattle.strm_frames.proofs.taking.append.Goals as goal

pub frames-init : goal.frames-init
frames-init c = appends_none c.args.bytes.now _

pub frames-smaller-in-Data : goal.frames-smaller-in-Data
frames-smaller-in-Data c = shorter (Data c.in-Data.lane c.in-Data.data.now) c.args.bytes.now (encoding c.frames.invariant.frames) c.frames.rest.now c.in-Data.more.now (λ i. omega (arith, c.type_inv.bytes i)) c.frames.invariant.whole c.in-Data.ensures

pub frames-smaller : goal.frames-smaller
frames-smaller c = shorter (End c.in-End.lane) c.args.bytes.now (encoding c.frames.invariant.frames) c.frames.rest.now c.in-End.more.now (λ i. omega (arith, c.type_inv.bytes i)) c.frames.invariant.whole c.in-End.ensures

pub frames-preserved : goal.frames-preserved
frames-preserved c = appends_end c.args.bytes.now c.frames.rest.now c.in-End.more.now _ _ c.in-End.lane (λ i. omega (arith, c.type_inv.bytes i)) c.frames.invariant c.in-End.ensures

pub frames-preserved-in-Data : goal.frames-preserved-in-Data
frames-preserved-in-Data c =
    let inside : length (map (λ v. v.items) c.frames.lanes) ≡ 256 = omega (arith, c.frames.invariant.extends.same, c.told-lanes, length-map c.args.lanes.now (λ v. v.items)) in
    appends_data c.args.bytes.now c.frames.rest.now c.in-Data.more.now c.in-Data.data.now _ _ _ c.in-Data.lane (λ i. omega (arith, c.type_inv.bytes i)) c.frames.invariant c.in-Data.ensures inside (c.keep_in.ensures.kept c.if-not-keep_in.false)

pub returns-then-not-keep_in-clause-err : goal.returns-then-not-keep_in-clause-err
returns-then-not-keep_in-clause-err c =
    let long : length (map (λ v. v.items) c.args.lanes.now) ≡ 256 = omega (arith, c.told-lanes, length-map c.args.lanes.now (λ v. v.items)) in
    appends_some c.args.bytes.now c.frames.rest.now _ _ _ long (rw (← (c.keep_in.ensures.unkept c.if-not-keep_in.true)) at c.frames.invariant) refl
