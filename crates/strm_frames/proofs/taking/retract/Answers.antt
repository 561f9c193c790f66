use Rattle.std.proofs.Common.{◌≡◌, ◌<◌, map, length, arith}
use Rattle.std.proofs.lemmas.List.{length-map}
use Rattle.strm_frames.proofs.TakingLemmas.{retracts_none, retracts_more, retracts_all}
use Rattle.strm_frames.proofs.taking.retract.Goals as goal

pub loop-lane-init : goal.loop-lane-init
loop-lane-init c = retracts_none c.args.bytes.now _

pub loop-lane-preserved : goal.loop-lane-preserved
loop-lane-preserved c =
    let inside : c.loop-lane.lane < length (map (λ v. v.items) c.loop-lane.lanes) = omega (arith, c.loop-lane.invariant.same, c.told-lanes, length-map c.args.lanes.now (λ v. v.items), length-map c.loop-lane.lanes (λ v. v.items)) in
    retracts_more c.args.bytes.now _ _ _ c.loop-lane.lane c.count-more.result c.loop-lane.invariant inside c.count-more.ensures c.cut_in.ensures

pub returns : goal.returns
returns c =
    let all : c.loop-lane.lane ≡ 256 = omega (arith, c.loop-lane.auto.lane-end) in
    retracts_all c.args.bytes.now _ _ (rw all at c.loop-lane.invariant)
