-- What has not met has moved nothing.
use Rattle.strm_laws.proofs.LawfulRuns.{unmoved}
use Rattle.strm_laws.proofs.laws.unmet_has_moved_none.Goals as goal

pub returns : goal.returns
returns c tag limits run s a = unmoved tag limits run s a
