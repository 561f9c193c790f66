use Rattle.std.proofs.Common.{arith, length, ◌<◌}
use Rattle.strm_frames.proofs.LaneLemmas.{cut_lane}
use Rattle.strm_frames.proofs.taking.cut_in.Goals as goal

pub returns : goal.returns
returns c =
    let inside : c.args.lane < length c.args.lanes.now = omega arith in
    cut_lane c.args.lanes.now c.args.lane _ c.index-lanes-lane.result c.args.count inside c.cut_end.ensures
