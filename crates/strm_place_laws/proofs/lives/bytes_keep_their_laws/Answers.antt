-- Bytes that are put, and all others.
use Rattle.strm_place_laws.proofs.Accounts.{there, aside}
use Rattle.strm_place_laws.proofs.lives.bytes_keep_their_laws.Goals as goal

pub returns-clause-there : goal.returns-clause-there
returns-clause-there c tag limits choices choice run = there tag limits choices choice run

pub returns-clause-aside : goal.returns-clause-aside
returns-clause-aside c tag limits choices choice run = aside tag limits choices choice run
