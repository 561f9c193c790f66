-- Members of sets are live after whichever steps.
use Rattle.strm_machine.specs.State.{empty}
use Rattle.strm_laws.specs.Conservation.{state_after_steps}
use Rattle.strm_laws.proofs.Handles.{members_are_live}
use Rattle.strm_laws.proofs.LawfulRuns.{sound}
use Rattle.strm_laws.proofs.laws.members_are_live.Goals as goal

pub returns : goal.returns
returns c tag limits run = members_are_live (state_after_steps (empty tag limits) run) (sound tag limits run)
