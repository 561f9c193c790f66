-- Behind the last.
use Rattle.strm_machine.specs.Acts.{act_of}
use Rattle.strm_places.proofs.AgainLemmas.{reaction_at-behind}
use Rattle.strm_places.proofs.behind_the_last_it_is_the_machine.Goals as goal

pub returns : goal.returns
returns c state step = reaction_at-behind state (act_of step)
