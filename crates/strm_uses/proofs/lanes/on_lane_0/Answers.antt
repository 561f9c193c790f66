use Rattle.std.proofs.Common.{[]}
use Rattle.strm_uses.proofs.lanes.on_lane_0.Goals as goal

pub returns : goal.returns
returns c = c.in_ok-put.ensures.carries [] c.new-mux.ensures.carries
