-- Of what a store among guests keeps, that handles and ends agree is enough.
use Rattle.strm_guest_store.proofs.ReadyLemmas.{has_ready, told_ready}
use Rattle.strm_guest_store.proofs.laws.ready_guests_have_events.Goals as goal

pub returns-clause-has : goal.returns-clause-has
returns-clause-has c state g among e = has_ready state g among.unhosted.sound among.held e

pub returns-clause-told : goal.returns-clause-told
returns-clause-told c state g handle among e = told_ready state g handle among.unhosted.sound among.held e
