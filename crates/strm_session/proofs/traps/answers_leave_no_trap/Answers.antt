-- Where a call leaves its store untrapped.
use Rattle.strm_session.proofs.TrapLemmas.{untrapped_before, untrapped_after, trapped_before}
use Rattle.strm_session.proofs.traps.answers_leave_no_trap.Goals as goal

pub returns-clause-before : goal.returns-clause-before
returns-clause-before c old new tells told reply step d = untrapped_before old new tells told reply step d

pub returns-clause-after : goal.returns-clause-after
returns-clause-after c old new tells told reply step d = untrapped_after old new tells told reply step d

pub returns-clause-trapped : goal.returns-clause-trapped
returns-clause-trapped c old new tells told step d = trapped_before old new tells told step d
