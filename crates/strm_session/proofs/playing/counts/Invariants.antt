use Rattle.std.proofs.Common.{◌≡◌, take}
use Rattle.strm_session.specs.Runs.{received_counts}
use Rattle.strm_session.proofs.playing.counts.Given as goal

abbrev pub invariant-loop-stream : goal.invariant-loop-stream
invariant-loop-stream l = l.counts ≡ take l.stream (received_counts l.store)
