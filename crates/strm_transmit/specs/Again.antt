-- How a call of the store is a making that may give a number again. Ours.
use Rattle.std.specs.Prelude.{◌≡◌, ℕ, ◌<◌, true, List, length, All, Result}
use Rattle.strm_machine.specs.State.{State, is_live}
use Rattle.strm_machine.specs.Reactions.{Reaction}
use Rattle.strm_machine.specs.declared.replies.Reply.{Reply}
use Rattle.strm_machine.specs.declared.streams.Stream.{Stream}
use Rattle.strm_places.specs.Again.{IsFree}
use Rattle.strm_transmit.specs.Meets.{Meets}
use Rattle.strm_transmit.specs.declared.errors.StoreError.{StoreError}

-- the answer and the state after it are the machine's where a stream that is made gets some free number
pub record MeetsAt (old new : State) (result : Result Reply StoreError) (step : ℕ → Reaction) : Type 0 where
  pub number : ℕ
  pub free : IsFree old.streams number
  pub meets : Meets old new result (step number)

-- there are more streams only where each of those before has an end left
abbrev pub GrowsFull : List Stream → List Stream → Type 0
GrowsFull old new = length old < length new → All (λ stream. is_live stream ≡ true) old
