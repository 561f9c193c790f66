use Rattle.std.proofs.Common.{◌≡◌, ◌++◌, List}
use Rattle.std.specs.Prelude.{All}
use Rattle.strm_frames.specs.Frames.{Frame}
use Rattle.strm_mux.specs.Carrying.{DeliversFrames}
use Rattle.strm_mux.specs.Lines.{FrameHasLine}
use Rattle.strm_mux.specs.Texts.{lanes_below}
use Rattle.strm_mux.proofs.texts.push_lanes.Given as goal

abbrev pub invariant-loop-lane : goal.invariant-loop-lane
invariant-loop-lane l =
    (given : List Frame) → DeliversFrames l.demux given → All FrameHasLine given → l.out ≡ l.initial.out ++ lanes_below l.lane given
