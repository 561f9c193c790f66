-- What moves without a meeting.
use Rattle.strm_host_laws.proofs.GuestRuns.{moved_by_hosts}
use Rattle.strm_host_laws.proofs.guests.unmet_moves_by_host_ends.Goals as goal

pub returns : goal.returns
returns c tag limits old new run count s a = moved_by_hosts tag limits old new run count s a
