-- Exactly the host writers that became gone were closed.
use Rattle.strm_host_laws.proofs.Closed.{moments-close, runs-close, stops-close, stops-end}
use Rattle.strm_host_laws.proofs.runs.ends_close_exactly.Goals as goal

pub returns-clause-runs : goal.returns-clause-runs
returns-clause-runs c tag limits old new run all end e = runs-close tag limits old new run all end e

pub returns-clause-moments : goal.returns-clause-moments
returns-clause-moments c tag limits old new run count = moments-close tag limits old new run count

pub returns-clause-stops : goal.returns-clause-stops
returns-clause-stops c tag limits old new run all stop writers readers e =
    stops-close tag limits old new run all stop writers readers e

pub returns-clause-gone : goal.returns-clause-gone
returns-clause-gone c tag limits old new run all stop writers readers e =
    stops-end tag limits old new run all stop writers readers e
