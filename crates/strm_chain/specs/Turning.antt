-- What one turn of a guest is, by the machine. Ours.
use Rattle.std.specs.Prelude.{◌≡◌, ℕ, ◌==◌, ◌≤◌, Bool, true, false, if◌then◌else◌, List, [], ◌∷◌, ◌++◌, count_by, All, IsSome, Some, None}
use Rattle.strm_codes.specs.declared.codes.ReturnCode.{ReturnCode}
use Rattle.strm_machine.specs.declared.steps.Step.{Step}
use Rattle.strm_machine.specs.declared.steps.Step.TheVariants as steps
use Rattle.strm_machine.specs.declared.replies.Reply.{Reply}
use Rattle.strm_machine.specs.declared.replies.Reply.TheVariants as replies
use Rattle.strm_machine.specs.declared.streams.Owner.TheVariants.{Held}
use Rattle.strm_machine.specs.declared.streams.Side.{Side}
use Rattle.strm_machine.specs.Sides.{end_of}
use Rattle.strm_machine.specs.State.{State, stream_at, is_gone}
use Rattle.strm_machine.specs.Plays.{play, Ends}
use Rattle.strm_laws.specs.Laws.{waiting}
use Rattle.strm_chain.specs.declared.workers.ChainTurn.{ChainTurn}
use Rattle.strm_chain.specs.declared.workers.ChainTurn.TheVariants.{Moved, Idle}
use Rattle.strm_chain.specs.Playing.{ChainPlay}
use Rattle.strm_chain.specs.Reporting.{is_told}

-- STEPS OF A TURN

-- a count of items that a guest may read or write at once
pub record IsChunkCount (chunk count : ℕ) : Type 0 where
  pub some : 1 ≤ count
  pub most : count ≤ chunk

-- a step that guest g may make in its turn: a read, a write, a drop, a poke, a dump or an event, of this
-- guest alone
abbrev pub IsStepOf : ℕ → ℕ → Step → Type 0
IsStepOf g chunk (steps.Write guest ty handle address count) =
    (guest ≡ g) × IsChunkCount chunk count
IsStepOf g chunk (steps.Read guest ty handle address count) = (guest ≡ g) × IsChunkCount chunk count
IsStepOf g chunk (steps.DropWrite guest ty handle) = guest ≡ g
IsStepOf g chunk (steps.DropRead guest ty handle) = guest ≡ g
IsStepOf g chunk (steps.Event guest handle) = guest ≡ g
IsStepOf g chunk (steps.Poke guest address bytes) = guest ≡ g
IsStepOf g chunk (steps.Dump guest address len) = guest ≡ g
IsStepOf g chunk _ = ⊥

-- an event
abbrev pub is_event : Step → Bool
is_event (steps.Event guest handle) = true
is_event _ = false

-- a read or a write that a code answers, or a drop that is done
abbrev pub is_call : Step → Reply → Bool
is_call (steps.Write guest ty handle address count) (replies.Code code) = true
is_call (steps.Read guest ty handle address count) (replies.Code code) = true
is_call (steps.DropWrite guest ty handle) replies.Done = true
is_call (steps.DropRead guest ty handle) replies.Done = true
is_call _ reply = false

-- one of the steps of a turn is such, with its reply
pub record HasCall (made : List Step) (told : List Reply) : Type 0 where
  pub before : List Step
  pub told_before : List Reply
  pub step : Step
  pub reply : Reply
  pub later : List Step
  pub told_later : List Reply
  pub steps_are : made ≡ before ++ step ∷ later
  pub replies_are : told ≡ told_before ++ reply ∷ told_later
  pub is : is_call step reply ≡ true

-- WHERE A GUEST STANDS

-- guest g has an operation: the end that it holds under this handle has a read or write that it was not
-- told of yet
pub record HasOperation (g handle : ℕ) (state : State) : Type 0 where
  pub stream : ℕ
  pub side : Side
  pub held : (end_of side (stream_at state stream)).owner ≡ Held g handle
  pub waits : IsSome (waiting stream side state)

-- guest g has ended: it has dropped the write end of its stream. The sink, the last guest, has none: it has
-- ended once it was told that there is no more
abbrev pub guest_has_ended : ℕ → ℕ → ChainPlay → Bool
guest_has_ended sink g before =
    if g == sink then is_told sink before.steps before.replies
    else is_gone (stream_at before.state g).writer.owner

-- TURNS

-- what guest g does in a turn, from where it stood, and what the turn answers
pub data Answers (sink g : ℕ) (before : ChainPlay) (made : List Step) (told : List Reply)
    (turn : ChainTurn) : Type 0 where
  -- it has ended, and makes no step
  NoStep : turn ≡ Idle → guest_has_ended sink g before ≡ true → made ≡ [] →
      Answers sink g before made told turn
  -- it has an operation, and the one step is the event of that, which answers none
  NoReport : (handle : ℕ) → turn ≡ Idle → HasOperation g handle before.state →
      made ≡ steps.Event g handle ∷ [] → told ≡ replies.Event None ∷ [] →
      Answers sink g before made told turn
  -- it has one, and the event of that, the first step, answers a code
  Report : (handle : ℕ) (code : ReturnCode) (later : List Step) (rest : List Reply) → turn ≡ Moved →
      HasOperation g handle before.state → made ≡ steps.Event g handle ∷ later →
      told ≡ replies.Event (Some code) ∷ rest → Answers sink g before made told turn
  -- it has not ended and has no operation: it reads, writes or drops
  Call : turn ≡ Moved → guest_has_ended sink g before ≡ false →
      ((handle : ℕ) → ¬ HasOperation g handle before.state) →
      HasCall made told → Answers sink g before made told turn

-- a turn of guest g: its steps are reads, writes, drops, pokes, dumps and at most one event, of this guest
-- alone, with the machine's replies, which lead from one state to the next
pub record Turns (sink chunk g : ℕ) (turn : ChainTurn) (before after : ChainPlay) : Type 0 where
  pub made : List Step
  pub told : List Reply
  pub steps_are : after.steps ≡ before.steps ++ made
  pub replies_are : after.replies ≡ before.replies ++ told
  pub plays : play [] before.state made ≡ Ends told after.state
  pub own : All (IsStepOf g chunk) made
  pub few : count_by is_event made ≤ 1
  pub answers : Answers sink g before made told turn
