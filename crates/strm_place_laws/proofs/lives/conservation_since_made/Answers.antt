-- Conservation since a stream was made.
use Rattle.strm_place_laws.proofs.Accounts.{conserves, stands}
use Rattle.strm_place_laws.proofs.lives.conservation_since_made.Goals as goal

pub returns-clause-conserves : goal.returns-clause-conserves
returns-clause-conserves c tag limits choices s run = conserves tag limits choices run s

pub returns-clause-stands : goal.returns-clause-stands
returns-clause-stands c tag limits choices s side run = stands tag limits choices run s side
