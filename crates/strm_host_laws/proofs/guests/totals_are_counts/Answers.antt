-- Items of operations are counts.
use Rattle.strm_host_machine.specs.Does.{start_world}
use Rattle.strm_laws.proofs.LawfulRuns.{stream_counted}
use Rattle.strm_host_laws.specs.HostMoments.{first_moments, end_world}
use Rattle.strm_host_laws.proofs.Standing.{run-holds}
use Rattle.strm_host_laws.proofs.guests.totals_are_counts.Goals as goal

pub returns : goal.returns
returns c tag limits old new run count s =
    stream_counted (end_world (start_world tag limits old new) (first_moments count (start_world tag limits old new) run)).state s (run-holds tag limits old new run count).sound
