-- Error contexts count their handles.
use Rattle.strm_host_machine.specs.Does.{start_world}
use Rattle.strm_laws.proofs.Handles.{contexts_count}
use Rattle.strm_host_laws.specs.HostMoments.{first_moments, end_world}
use Rattle.strm_host_laws.proofs.Standing.{run-holds}
use Rattle.strm_host_laws.proofs.guests.contexts_count_their_handles.Goals as goal

pub returns : goal.returns
returns c tag limits old new run count =
    contexts_count (end_world (start_world tag limits old new) (first_moments count (start_world tag limits old new) run)).state (run-holds tag limits old new run count).sound
