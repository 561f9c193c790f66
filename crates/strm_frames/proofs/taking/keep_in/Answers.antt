use Rattle.std.proofs.Common.{arith, length, ◌<◌}
use Rattle.strm_frames.proofs.LaneLemmas.{kept_lane, same_lane}
use Rattle.strm_frames.proofs.taking.keep_in.Goals as goal

pub returns : goal.returns
returns c =
    let inside : c.args.lane < length c.args.lanes.now = omega arith in
    record {
      kept = λ t. kept_lane c.args.lanes.now c.args.lane _ c.index-lanes-lane.result c.args.bytes.now inside (rw t at c.keep.ensures);
      unkept = λ t. same_lane c.args.lanes.now c.args.lane _ c.index-lanes-lane.result inside (rw t at c.keep.ensures);
    }
