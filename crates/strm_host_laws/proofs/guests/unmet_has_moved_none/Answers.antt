-- What has not met has moved nothing.
use Rattle.strm_host_laws.proofs.GuestRuns.{unmoved}
use Rattle.strm_host_laws.proofs.guests.unmet_has_moved_none.Goals as goal

pub returns : goal.returns
returns c tag limits old new run count s a g p = unmoved tag limits old new run count s a g p
