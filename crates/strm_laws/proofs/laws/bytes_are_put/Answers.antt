-- What is put lies there.
use Rattle.strm_laws.proofs.OtherBytes.{bytes_are_put}
use Rattle.strm_laws.proofs.laws.bytes_are_put.Goals as goal

pub returns : goal.returns
returns c tag limits run step = bytes_are_put tag limits run step
