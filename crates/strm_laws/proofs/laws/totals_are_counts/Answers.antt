-- Items of operations are counts.
use Rattle.strm_laws.proofs.LawfulRuns.{counted}
use Rattle.strm_laws.proofs.laws.totals_are_counts.Goals as goal

pub returns : goal.returns
returns c tag limits run s a = counted tag limits run s a
