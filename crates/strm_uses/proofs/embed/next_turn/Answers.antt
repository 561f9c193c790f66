-- The guest that is told is ready by the law of the least one, and the store is as it was where it is asked again.
use Rattle.std.proofs.Common.{◌≡◌, ℕ, ◌<◌, true, false, length, Option, Some, None, Result, Ok, Err, IfOk, IfSome, sym, ◌∙◌, subst, arith}
use Rattle.strm_machine.specs.State.{State}
use Rattle.strm_transmit.specs.ReadyGuests.{is_ready_guest, next_ready_guest}
use Rattle.strm_transmit.proofs.ReadyGuestLemmas.{next_ready-is, next_ready-none}
use Rattle.strm_uses.proofs.embed.next_turn.Goals as goal

-- what is told from the first guest on
abbrev Tells : {E : Type 0} → State → Result (Option ℕ) E → Type 0
Tells state result = IfOk result (λ guest. guest ≡ next_ready_guest state 0)

told_ready : {E : Type 0} (state : State) (result : Result (Option ℕ) E) → Tells state result → IfOk result (λ guest. IfSome guest (λ g. is_ready_guest state g ≡ true))
told_ready state (Ok (Some g)) told = (next_ready-is state 0 g (sym told)).ready
told_ready state (Ok None) told = tt
told_ready state (Err error) told = tt

told_none : {E : Type 0} (state : State) (result : Result (Option ℕ) E) → Tells state result → result ≡ Ok None → (g : ℕ) → g < length state.guests → is_ready_guest state g ≡ false
told_none state (Ok None) told none g l = next_ready-none state 0 (sym told) g (omega arith) l
told_none state (Ok (Some n)) told none g l = cc
told_none state (Err error) told none g l = cc

pub returns-in-Some-clause-ready : goal.returns-in-Some-clause-ready
returns-in-Some-clause-ready c =
    (next_ready-is c.args.store.now _ c.in-Some.guest (sym c.in_ok-guest.ensures.exact ∙ c.in-Some.is)).ready

pub returns-in-None-clause-ready : goal.returns-in-None-clause-ready
returns-in-None-clause-ready c =
    told_ready c.args.store.now _ (subst (λ s. Tells s c.next_ready_guest-in-None.result) c.in_ok-guest.ensures.same c.next_ready_guest-in-None.ensures.exact)

pub returns-in-None-clause-none : goal.returns-in-None-clause-none
returns-in-None-clause-none c =
    told_none c.args.store.now _ (subst (λ s. Tells s c.next_ready_guest-in-None.result) c.in_ok-guest.ensures.same c.next_ready_guest-in-None.ensures.exact)
