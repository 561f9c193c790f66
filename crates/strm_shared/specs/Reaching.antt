-- What is known of the state after a legal history. Ours.
use Rattle.std.specs.Prelude.{◌≡◌, ℕ}
use Rattle.strm_machine.specs.State.{State, producer_at, consumer_at}
use Rattle.strm_machine.specs.Soundness.{IsSound}
use Rattle.strm_machine.specs.Hosting.{HostsHold}
use Rattle.strm_machine.specs.declared.streams.Duty.TheVariants.{Unused}
use Rattle.strm_machine.proofs.HeldLemmas.{StateIsHeld}

-- it is sound, handles and ends agree, and no host end has one
pub record IsStateReached (state : State) : Type 0 where
  pub sound : IsSound state
  pub held : StateIsHeld state
  pub hosts : HostsHold state
  pub writers : (n : ℕ) → (producer_at state n).duty ≡ Unused
  pub readers : (n : ℕ) → (consumer_at state n).duty ≡ Unused
