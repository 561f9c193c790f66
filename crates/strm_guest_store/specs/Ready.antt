-- A handle whose end is to be told something. Ours.
use Rattle.std.specs.Prelude.{◌≡◌, ℕ, true}
use Rattle.strm_machine.specs.State.{State}
use Rattle.strm_machine.specs.WaitableSets.{is_ready}

-- a guest has a handle that names an end which is to be told something
pub record HasReadyHandle (state : State) (g : ℕ) : Type 0 where
  pub handle : ℕ
  pub ready : is_ready state g handle ≡ true
