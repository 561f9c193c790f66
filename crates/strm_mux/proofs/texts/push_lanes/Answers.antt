use Rattle.strm_mux.proofs.TextLemmas.{no_lanes, lanes_more}
use Rattle.strm_mux.proofs.texts.push_lanes.Goals as goal

pub loop-lane-init : goal.loop-lane-init
loop-lane-init c = λ given d h. no_lanes c.args.out.now given

pub loop-lane-preserved : goal.loop-lane-preserved
loop-lane-preserved c = λ given d h.
    lanes_more c.args.out.now c.loop-lane.out c.push_lane.new.out c.loop-lane.lane given (c.loop-lane.invariant given d h) (c.in_ok-push_lane.ensures given d h)
