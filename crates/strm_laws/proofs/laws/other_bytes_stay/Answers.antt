-- The bytes beside what a moment touches.
use Rattle.strm_laws.proofs.OtherBytes.{other_bytes_stay}
use Rattle.strm_laws.proofs.laws.other_bytes_stay.Goals as goal

pub returns : goal.returns
returns c tag limits run step a = other_bytes_stay tag limits run step a
