-- The law of conservation.
use Rattle.strm_laws.proofs.Conserved.{conserves, stands}
use Rattle.strm_laws.proofs.laws.conservation.Goals as goal

pub returns-clause-conserves : goal.returns-clause-conserves
returns-clause-conserves c tag limits run s a = conserves tag limits run s a

pub returns-clause-stands : goal.returns-clause-stands
returns-clause-stands c tag limits run s side a = stands tag limits run s a side
