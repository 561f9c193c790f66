-- Error contexts count their handles after whichever steps.
use Rattle.strm_machine.specs.State.{empty}
use Rattle.strm_laws.specs.Conservation.{state_after_steps}
use Rattle.strm_laws.proofs.Handles.{contexts_count}
use Rattle.strm_laws.proofs.LawfulRuns.{sound}
use Rattle.strm_laws.proofs.laws.contexts_count_their_handles.Goals as goal

pub returns : goal.returns
returns c tag limits run = contexts_count (state_after_steps (empty tag limits) run) (sound tag limits run)
