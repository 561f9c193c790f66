use Rattle.strm_guest_store.proofs.AgainLemmas.{step_at-bases}
use Rattle.strm_guest_store.proofs.BaseLemmas.{step-bases, lowering-bases, operation-bases}
use Rattle.strm_guest_store.proofs.laws.memories_stay.Goals as goal

pub returns-clause-steps : goal.returns-clause-steps
returns-clause-steps c = step-bases

pub returns-clause-lowerings : goal.returns-clause-lowerings
returns-clause-lowerings c = lowering-bases

pub returns-clause-makings : goal.returns-clause-makings
returns-clause-makings c = step_at-bases

pub returns-clause-operations : goal.returns-clause-operations
returns-clause-operations c = operation-bases
