-- A call leaves the streams of its reaction, of which only its own has changed so.
use Rattle.strm_machine.specs.Acts.{act_of}
use Rattle.strm_guest_store.proofs.LivesLemmas.{newly_told}
use Rattle.strm_guest_store.proofs.OwnReadyLemmas.{making-own, step-own, operation-own, lowers-own}
use Rattle.strm_guest_store.proofs.laws.ready_by_its_own_stream.Goals as goal

pub returns-clause-steps : goal.returns-clause-steps
returns-clause-steps c = λ old new result step m s side made. step-own old new result step s side m made

pub returns-clause-makings : goal.returns-clause-makings
returns-clause-makings c = λ old new result n step m s side made. making-own old new result n (act_of step) s side m made

pub returns-clause-operations : goal.returns-clause-operations
returns-clause-operations c = λ old new result step m s side made. operation-own old new result step s side m made

pub returns-clause-lowerings : goal.returns-clause-lowerings
returns-clause-lowerings c = λ old new result number guest m s side made. lowers-own old new result number guest s side m made

pub returns-clause-ends : goal.returns-clause-ends
returns-clause-ends c = λ state guest s side among there held made. newly_told state guest s among there side held made
