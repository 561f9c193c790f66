-- Every state is sound.
use Rattle.strm_host_laws.proofs.Standing.{run-holds}
use Rattle.strm_host_laws.proofs.guests.states_are_sound.Goals as goal

pub returns-clause-sound : goal.returns-clause-sound
returns-clause-sound c tag limits old new run count = (run-holds tag limits old new run count).sound

pub returns-clause-hosts : goal.returns-clause-hosts
returns-clause-hosts c tag limits old new run count = (run-holds tag limits old new run count).hosts
