-- What a future passes.
use Rattle.strm_laws.proofs.Conserved.{one}
use Rattle.strm_laws.proofs.laws.futures_pass_one.Goals as goal

pub returns : goal.returns
returns c tag limits run s a k = one tag limits run s a k
