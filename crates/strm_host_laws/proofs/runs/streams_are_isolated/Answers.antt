-- Streams are isolated.
use Rattle.strm_host_laws.proofs.Isolated.{run-isolated}
use Rattle.strm_host_laws.proofs.runs.streams_are_isolated.Goals as goal

pub returns : goal.returns
returns c tag limits old new run count = run-isolated tag limits old new run count
