-- A lowering is no step, and leaves the store among guests too.
use Rattle.std.proofs.Common.{subst}
use Rattle.strm_machine.specs.State.{State}
use Rattle.strm_machine.specs.Bases.{BasesStay}
use Rattle.strm_guest_store.proofs.AmongLemmas.{lowered_among}
use Rattle.strm_guest_store.proofs.BaseLemmas.{lowering-bases}
use Rattle.strm_guest_store.proofs.guest_store.GuestStore.error_context_lower.Goals as goal

pub invariant_of-self : goal.invariant_of-self
invariant_of-self c =
    lowered_among c.self.inside.store c.error_context_lower.new.self _ c.args.rep c.args.guest c.self.invariant c.error_context_lower.ensures.meets c.error_context_lower.ensures.fits

pub returns-clause-stays : goal.returns-clause-stays
returns-clause-stays c =
    subst (λ (s : State). BasesStay s.guests c.error_context_lower.new.self.guests) c.self.view_is
    (lowering-bases c.self.inside.store c.error_context_lower.new.self _ c.args.rep c.args.guest c.error_context_lower.ensures.meets)
