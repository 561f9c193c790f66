-- Whatever host ends fitted a store still fit it after a call that touches none.
use Rattle.std.proofs.Common.{◌≡◌, ℕ, Bool, true, false, cond, Option, Some, None, Result, refl, subst}
use Rattle.strm_codes.specs.declared.refusals.Refusal.{Refusal}
use Rattle.strm_machine.specs.State.{State}
use Rattle.strm_machine.specs.Refusals.{first_of, lower_context_reasons}
use Rattle.strm_machine.specs.Soundness.{IsSound}
use Rattle.strm_machine.specs.Reactions.{Reaction, goes, reaction, shares_unless, lowers_context}
use Rattle.strm_machine.specs.declared.acts.Act.{Act}
use Rattle.strm_machine.specs.declared.replies.Reply.{Reply}
use Rattle.strm_machine.specs.declared.replies.Reply.TheVariants as replies
use Rattle.strm_transmit.specs.Hosted.{StillFits}
use Rattle.strm_transmit.specs.Inside.{AreServed}
use Rattle.strm_transmit.specs.Meets.{Meets}
use Rattle.strm_transmit.specs.declared.errors.StoreError.{StoreError}
use Rattle.strm_transmit.proofs.FitsLemmas.{KeepsTypes, Fits-kept, same_streams, reaction-types}
use Rattle.strm_transmit.proofs.HostStepLemmas.{meets-types}

-- a step of the machine, whatever the call answered
pub still_fits : (old new : State) (act : Act) (result : Result Reply StoreError) → IsSound old → AreServed old.producers old.consumers old.streams → Meets old new result (reaction old act) → StillFits old new
still_fits old new act result sound served m tells =
    Fits-kept old new tells served.made (meets-types old new result (reaction old act) m (reaction-types old act sound))

-- and one that was done
pub done_fits : (old new : State) (act : Act) (reply : Reply) → IsSound old → AreServed old.producers old.consumers old.streams → reaction old act ≡ goes reply new → StillFits old new
done_fits old new act reply sound served e tells =
    Fits-kept old new tells served.made (subst (λ (r : Reaction). KeepsTypes old r.state) e (reaction-types old act sound))

-- ## What is no step

shares-types : (state : State) (number g : ℕ) (o : Option Refusal) → KeepsTypes state (shares_unless state number g o).state
shares-types state number g (Some q) = same_streams state state refl refl refl
shares-types state number g None = same_streams state _ refl refl refl

lowers-types : (state : State) (number g : ℕ) → KeepsTypes state (lowers_context state number g).state
unfolding lowers_context
lowers-types state number g = by_trap state.trapped
  where
    by_trap : (b : Bool) → KeepsTypes state (cond b (goes replies.StoreTrapped state) (shares_unless state number g (first_of (lower_context_reasons state number g)))).state
    by_trap true = same_streams state state refl refl refl
    by_trap false = shares-types state number g (first_of (lower_context_reasons state number g))

-- the lowering of an error context
pub lowered_fits : (old new : State) (number g : ℕ) (result : Result Reply StoreError) → AreServed old.producers old.consumers old.streams → Meets old new result (lowers_context old number g) → StillFits old new
lowered_fits old new number g result served m tells =
    Fits-kept old new tells served.made (meets-types old new result (lowers_context old number g) m (lowers-types old number g))
