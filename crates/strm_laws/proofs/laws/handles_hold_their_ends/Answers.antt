-- Handles and ends agree after whichever steps.
use Rattle.strm_machine.specs.State.{empty}
use Rattle.strm_laws.specs.Conservation.{state_after_steps}
use Rattle.strm_laws.proofs.Handles.{held, handles_hold, handles_are_single}
use Rattle.strm_laws.proofs.laws.handles_hold_their_ends.Goals as goal

pub returns-clause-holds : goal.returns-clause-holds
returns-clause-holds c tag limits run = handles_hold (state_after_steps (empty tag limits) run) (held tag limits run)

pub returns-clause-single : goal.returns-clause-single
returns-clause-single c tag limits run = handles_are_single (state_after_steps (empty tag limits) run) (held tag limits run)
