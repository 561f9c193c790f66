-- A store of guests that is played step by step. Ours.
use Rattle.std.specs.Prelude.{◌≡◌, ℕ, ◌+◌, ◌≤◌, true, false, List, [], ◌∷◌, ◌++◌, length, All}
use Rattle.strm_codes.specs.declared.codes.TransmitIndex.{TransmitIndex}
use Rattle.strm_codes.specs.declared.codes.TransmitIndex.TheVariants as index
use Rattle.strm_codes.specs.declared.payloads.Payload.TheVariants.{One}
use Rattle.strm_codes.specs.declared.scalars.Scalar.TheVariants.{U8}
use Rattle.strm_machine.specs.State.{State}
use Rattle.strm_laws.specs.Starts.{run_start}
use Rattle.strm_machine.specs.Reactions.{react, goes}
use Rattle.strm_machine.specs.Plays.{play}
use Rattle.strm_machine.specs.declared.steps.Step.{Step}
use Rattle.strm_machine.specs.declared.steps.Step.TheVariants as steps
use Rattle.strm_machine.specs.declared.streams.Side.{Side}
use Rattle.strm_machine.specs.declared.streams.Side.TheVariants.{Writing, Reading}
use Rattle.strm_machine.specs.declared.replies.Reply.{Reply}
use Rattle.strm_laws.specs.Laws.{StepHasBytes}
use Rattle.strm_host_machine.specs.Does.{Fits}
use Rattle.strm_transmit.specs.Meets.{is_done}
use Rattle.strm_transmit.specs.Guests.{nobody, Unhosted}

-- the streams of a chain are of bytes
abbrev pub bytes_type : TransmitIndex
bytes_type = index.Stream (One U8)

-- these steps were answered so, and led from a new store to this one, which goes on and needs no host end
pub record Follows (steps : List Step) (replies : List Reply) (state : State) : Type 0 where
  pub led : (more : List Step) → play [] run_start (steps ++ more) ≡ play replies state more
  pub running : state.trapped ≡ false
  pub unhosted : Unhosted state
  pub fits : Fits state nobody
  pub few : length steps ≤ 4294967295
  pub bytes : All StepHasBytes steps

-- a step behind these was done, and had this reply
pub record IsAnswered (steps : List Step) (replies : List Reply) (step : Step) (reply : Reply)
    (next : State) : Type 0 where
  pub before : State
  pub follows : Follows steps replies before
  pub room : length steps + 1 ≤ 4294967295
  pub reacts : react before step ≡ goes reply next
  pub done : is_done reply ≡ true
  pub fits : Fits next nobody

-- what was played: the steps, their replies and the state that they led to
pub record ChainPlay : Type 0 where
  pub steps : List Step
  pub replies : List Reply
  pub state : State

-- nothing yet
abbrev pub no_play : ChainPlay
no_play = record { steps = []; replies = []; state = run_start }

-- the steps of a play were answered so, and led to its state
abbrev pub IsChainPlayed : ChainPlay → Type 0
IsChainPlayed play = Follows play.steps play.replies play.state

-- the laws speak of so many steps more: of no play of more than 4,294,967,295
abbrev pub HasRoomForSteps : ℕ → ChainPlay → Type 0
HasRoomForSteps count play = length play.steps + count ≤ 4294967295

-- a read or a write of guest g, on an end of a stream of bytes
abbrev pub operation : Side → ℕ → ℕ → ℕ → ℕ → Step
operation Writing g handle address count = steps.Write g bytes_type handle address count
operation Reading g handle address count = steps.Read g bytes_type handle address count

-- the machine does this step in this state
abbrev pub IsDone : State → Step → Type 0
IsDone state step = is_done (react state step).reply ≡ true

-- one step was played, and had this reply
pub record Adds (play play' : ChainPlay) (step : Step) (reply : Reply) : Type 0 where
  pub steps_are : play'.steps ≡ play.steps ++ step ∷ []
  pub replies_are : play'.replies ≡ play.replies ++ reply ∷ []
  pub reacts : react play.state step ≡ goes reply play'.state
