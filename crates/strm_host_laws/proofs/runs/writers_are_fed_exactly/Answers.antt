-- Host writers use their records in order, and hear the feeds to them.
use Rattle.strm_host_laws.proofs.Fed.{run-goes_on}
use Rattle.strm_host_laws.proofs.StoppedEnds.{writers-stop}
use Rattle.strm_host_laws.proofs.runs.writers_are_fed_exactly.Goals as goal

pub returns-clause-runs : goal.returns-clause-runs
returns-clause-runs c first run count n = run-goes_on first run count n

pub returns-clause-stops : goal.returns-clause-stops
returns-clause-stops c first run replies stop writers readers e = writers-stop first run replies stop writers readers e
