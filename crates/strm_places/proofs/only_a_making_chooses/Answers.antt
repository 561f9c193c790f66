-- Any step but a making.
use Rattle.strm_machine.specs.Acts.{act_of}
use Rattle.strm_places.proofs.AgainLemmas.{reaction_at-other}
use Rattle.strm_places.proofs.only_a_making_chooses.Goals as goal

pub returns : goal.returns
returns c state n step e = reaction_at-other n state (act_of step) e
