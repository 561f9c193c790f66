-- Exactly the host readers that became gone were closed.
use Rattle.strm_host_laws.proofs.ReadersClosed.{readers-close, runs-close_readers, stops-close_readers}
use Rattle.strm_host_laws.proofs.runs.readers_close_exactly.Goals as goal

pub returns-clause-runs : goal.returns-clause-runs
returns-clause-runs c tag limits old new run replies end e = runs-close_readers tag limits old new run replies end e

pub returns-clause-moments : goal.returns-clause-moments
returns-clause-moments c tag limits old new run count = readers-close tag limits old new run count

pub returns-clause-stops : goal.returns-clause-stops
returns-clause-stops c tag limits old new run replies stop writers readers e = stops-close_readers tag limits old new run replies stop writers readers e
