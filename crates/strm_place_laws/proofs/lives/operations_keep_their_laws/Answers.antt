-- Operations.
use Rattle.strm_place_laws.proofs.Accounts.{lawful_end, unmoved, counted}
use Rattle.strm_place_laws.proofs.lives.operations_keep_their_laws.Goals as goal

pub returns-clause-apart : goal.returns-clause-apart
returns-clause-apart c tag limits choices s run = (lawful_end tag limits choices run).apart s

pub returns-clause-unmoved : goal.returns-clause-unmoved
returns-clause-unmoved c tag limits choices s run = unmoved tag limits choices run s

pub returns-clause-counted : goal.returns-clause-counted
returns-clause-counted c tag limits choices s run = counted tag limits choices run s
