-- A guest over an engine's bytes, which is no step of the machine: why the call is refused, and what it leaves.
use Rattle.std.proofs.Common.{◌≡◌, ℕ, List, length, Result, Ok, Err, Option, None, refl}
use Rattle.std.specs.Ptr.{Ptr}
use Rattle.strm_codes.specs.declared.refusals.Refusal.{Refusal}
use Rattle.strm_machine.specs.State.{State}
use Rattle.strm_machine.specs.Refusals.{first_of}
use Rattle.strm_machine.specs.Reactions.{goes}
use Rattle.strm_machine.specs.Growth.{with_guest_at, guest_at_reasons, adds_guest_at}
use Rattle.strm_machine.specs.declared.replies.Reply.{Reply}
use Rattle.strm_machine.specs.declared.replies.Reply.TheVariants as replies
use Rattle.strm_machine.proofs.GrowthLemmas.{adds_guest_at-trapped, adds_guest_at-refused, adds_guest_at-performs, adds_guest_at-by}
use Rattle.strm_transmit.specs.Hosted.{StillFits}
use Rattle.strm_transmit.specs.Inside.{AreServed}
use Rattle.strm_transmit.specs.Meets.{Meets, or_found, admitted}
use Rattle.strm_transmit.specs.declared.errors.StoreError.{StoreError}
use Rattle.strm_transmit.proofs.StepLemmas.{is_admitted, not_admitted}
use Rattle.strm_transmit.proofs.FitsLemmas.{KeepsTypes, Fits-kept, same_streams}
use Rattle.strm_transmit.proofs.HostStepLemmas.{meets-types}

module _ (state : State) (bytes : List ℕ) (base : Ptr) where
  -- why it is refused, if it is
  abbrev pub guest_at_refusal : Option Refusal
  guest_at_refusal = first_of (guest_at_reasons state (length bytes))

  -- why it was not admitted, as the answer
  pub meets_not_added : {V : Type 0} (wanted : V) (found : Result V Refusal) (error : StoreError) → found ≡ or_found guest_at_refusal wanted → Err error ≡ admitted state found → Meets state state (Err error) (adds_guest_at state bytes base)
  meets_not_added wanted found error e a =
      not_admitted state guest_at_refusal wanted found (λ x. Meets state state (Err x) (adds_guest_at state bytes base)) error e a
      (λ t. (adds_guest_at-trapped state bytes base t, refl)) (λ q t r. (adds_guest_at-refused state bytes base q t r, refl))

  -- one that was admitted: nothing refuses it, and it is a guest more
  pub record IsAdded : Type 0 where
    pub none : guest_at_refusal ≡ None
    pub added : adds_guest_at state bytes base ≡ goes (replies.Number (length state.guests)) (with_guest_at state bytes base)

  pub is_added : {V : Type 0} (wanted : V) (found : Result V Refusal) (value : V) → found ≡ or_found guest_at_refusal wanted → Ok value ≡ admitted state found → IsAdded
  is_added wanted found value e a =
      let passed = is_admitted state guest_at_refusal wanted found value e a in
      record { none = passed.none; added = adds_guest_at-performs state bytes base passed.untrapped passed.none }

-- whatever host ends fitted a store still fit it
pub added_fits : (old new : State) (bytes : List ℕ) (base : Ptr) (result : Result Reply StoreError) → AreServed old.producers old.consumers old.streams → Meets old new result (adds_guest_at old bytes base) → StillFits old new
added_fits old new bytes base result served m tells =
    Fits-kept old new tells served.made
    (meets-types old new result (adds_guest_at old bytes base) m
    (adds_guest_at-by (λ (s : State). KeepsTypes old s) old bytes base (same_streams old old refl refl refl) (λ fits. same_streams old _ refl refl refl)))
