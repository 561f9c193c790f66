-- Handles and ends agree.
use Rattle.strm_host_machine.specs.Does.{start_world}
use Rattle.strm_laws.proofs.Handles.{handles_hold, handles_are_single}
use Rattle.strm_host_laws.specs.HostMoments.{first_moments, end_world}
use Rattle.strm_host_laws.proofs.Standing.{run-holds}
use Rattle.strm_host_laws.proofs.guests.handles_hold_their_ends.Goals as goal

pub returns-clause-holds : goal.returns-clause-holds
returns-clause-holds c tag limits old new run count =
    handles_hold (end_world (start_world tag limits old new) (first_moments count (start_world tag limits old new) run)).state (run-holds tag limits old new run count).held

pub returns-clause-single : goal.returns-clause-single
returns-clause-single c tag limits old new run count =
    handles_are_single (end_world (start_world tag limits old new) (first_moments count (start_world tag limits old new) run)).state (run-holds tag limits old new run count).held
