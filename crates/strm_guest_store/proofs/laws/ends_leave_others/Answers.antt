-- Each end that the guest had is given up by a handle that names it, and no other is.
use Rattle.strm_guest_store.proofs.LivesLemmas.{loses_ends, peers_told}
use Rattle.strm_guest_store.proofs.laws.ends_leave_others.Goals as goal

pub returns-clause-streams : goal.returns-clause-streams
returns-clause-streams c = loses_ends

pub returns-clause-told : goal.returns-clause-told
returns-clause-told c = λ state guest s side among there peer. peers_told state guest s among there side peer
