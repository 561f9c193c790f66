-- Host readers use their records in order, and hear the grants to them.
use Rattle.strm_host_laws.proofs.ReadersFed.{run-reader_goes_on}
use Rattle.strm_host_laws.proofs.StoppedEnds.{readers-stop}
use Rattle.strm_host_laws.proofs.runs.readers_are_granted_exactly.Goals as goal

pub returns-clause-runs : goal.returns-clause-runs
returns-clause-runs c first run count r = run-reader_goes_on first run count r

pub returns-clause-stops : goal.returns-clause-stops
returns-clause-stops c first run replies stop writers readers e = readers-stop first run replies stop writers readers e
