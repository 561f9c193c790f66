-- What a guest has after a call.
use Rattle.strm_guest_store.proofs.GainLemmas.{step-gains, making-gains, lowering-gains, operation-gains}
use Rattle.strm_guest_store.proofs.limit_laws.limits_hold.Goals as goal

pub returns-clause-steps : goal.returns-clause-steps
returns-clause-steps c limits old new result step guest past m = step-gains limits old new guest result step past m

pub returns-clause-makings : goal.returns-clause-makings
returns-clause-makings c limits old new result n step guest past m = making-gains limits old new guest result n step past m

pub returns-clause-operations : goal.returns-clause-operations
returns-clause-operations c limits old new result step guest past m = operation-gains limits old new guest result step past m

pub returns-clause-lowerings : goal.returns-clause-lowerings
returns-clause-lowerings c limits old new result number to guest past m = lowering-gains limits old new guest result number to past m
