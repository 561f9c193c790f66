use Rattle.strm_transmit.proofs.ReadyGuestLemmas.{next_ready-is, next_ready-none}
use Rattle.strm_guest_store.proofs.laws.next_ready_guest_is_the_least.Goals as goal

pub returns-clause-next : goal.returns-clause-next
returns-clause-next c state from g e = next_ready-is state from g e

pub returns-clause-none : goal.returns-clause-none
returns-clause-none c state from g e l u = next_ready-none state from e g l u
