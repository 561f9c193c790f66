-- No two open sides.
use Rattle.strm_laws.proofs.LawfulRuns.{apart}
use Rattle.strm_laws.proofs.laws.never_two_open.Goals as goal

pub returns : goal.returns
returns c tag limits run s a = apart tag limits run s a
