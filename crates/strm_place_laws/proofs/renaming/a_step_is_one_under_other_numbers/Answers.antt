-- One step.
use Rattle.strm_place_laws.proofs.RenamedSteps.{step-as}
use Rattle.strm_place_laws.proofs.RenamedRuns.{renames_itself}
use Rattle.strm_place_laws.proofs.renaming.a_step_is_one_under_other_numbers.Goals as goal

pub returns-clause-comes_out : goal.returns-clause-comes_out
returns-clause-comes_out c f n slim full step can = step-as f n slim full step can

pub returns-clause-itself : goal.returns-clause-itself
returns-clause-itself c state = renames_itself state
