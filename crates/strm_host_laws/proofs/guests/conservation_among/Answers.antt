-- The law of conservation, on a stream that guests write.
use Rattle.strm_host_laws.proofs.GuestRuns.{conserves_among, stands_among, one_among}
use Rattle.strm_host_laws.proofs.guests.conservation_among.Goals as goal

pub returns-clause-conserves : goal.returns-clause-conserves
returns-clause-conserves c tag limits old new run count s a g = conserves_among tag limits old new run count s a g

pub returns-clause-stands : goal.returns-clause-stands
returns-clause-stands c tag limits old new run count s side a g = stands_among tag limits old new run count s a g side

pub returns-clause-one : goal.returns-clause-one
returns-clause-one c tag limits old new run count s a g k = one_among tag limits old new run count s a g k
