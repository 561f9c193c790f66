-- Members of sets are live.
use Rattle.strm_host_machine.specs.Does.{start_world}
use Rattle.strm_laws.proofs.Handles.{members_are_live}
use Rattle.strm_host_laws.specs.HostMoments.{first_moments, end_world}
use Rattle.strm_host_laws.proofs.Standing.{run-holds}
use Rattle.strm_host_laws.proofs.guests.members_are_live.Goals as goal

pub returns : goal.returns
returns c tag limits old new run count =
    members_are_live (end_world (start_world tag limits old new) (first_moments count (start_world tag limits old new) run)).state (run-holds tag limits old new run count).sound
