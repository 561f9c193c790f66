use Rattle.std.proofs.Common.{◌+◌, ◌≤◌, length}
use Rattle.strm_mux.specs.LineReading.{HoldsSoFar}
use Rattle.strm_mux.proofs.lines.mux_of.Given as goal

abbrev pub invariant-loop-rest : goal.invariant-loop-rest
invariant-loop-rest l = record {
  holds : HoldsSoFar l.mux l.bytes l.rest l.count;
  few : l.count + length l.rest ≤ length l.bytes;
}

abbrev pub decreases-loop-rest : goal.decreases-loop-rest
decreases-loop-rest l = length l.rest
