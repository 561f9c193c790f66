-- Every state is sound.
use Rattle.strm_laws.proofs.LawfulRuns.{sound}
use Rattle.strm_laws.proofs.laws.states_are_sound.Goals as goal

pub returns : goal.returns
returns c tag limits run = sound tag limits run
