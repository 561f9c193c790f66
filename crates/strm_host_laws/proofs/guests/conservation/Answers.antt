-- The law of conservation, on a stream of which no host end had an end.
use Rattle.strm_host_laws.proofs.GuestRuns.{conserves, stands}
use Rattle.strm_host_laws.proofs.guests.conservation.Goals as goal

pub returns-clause-conserves : goal.returns-clause-conserves
returns-clause-conserves c tag limits old new run count s a g p = conserves tag limits old new run count s a g p

pub returns-clause-stands : goal.returns-clause-stands
returns-clause-stands c tag limits old new run count s side a g p = stands tag limits old new run count s a g p side
