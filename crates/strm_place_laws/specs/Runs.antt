-- Runs of a store that gives numbers again, and the run of the machine that each of them is. Ours.
use Rattle.std.specs.Prelude.{◌≡◌, ℕ, ◌+◌, ◌≤◌, List, [], ◌∷◌, length, count_by}
use Rattle.strm_machine.specs.State.{State, stream_limit}
use Rattle.strm_machine.specs.Acts.{act_of}
use Rattle.strm_machine.specs.Reactions.{Reaction, react}
use Rattle.strm_machine.specs.Moments.{Moment}
use Rattle.strm_machine.specs.Soundness.{IsSound}
use Rattle.strm_machine.specs.declared.steps.Step.{Step}
use Rattle.strm_laws.specs.Laws.{HandlesHold}
use Rattle.strm_places.specs.Again.{IsFree, is_making, reacts_at}
use Rattle.strm_place_laws.specs.Renaming.{Renames, number_as, act_as, step_as, reply_as, numbers_after}

-- a step, and the place of the stream that it makes, if it makes one
pub record Choice : Type 0 where
  pub step : Step
  pub place : ℕ

-- what it does
abbrev pub takes : State → Choice → Reaction
takes state choice = reacts_at choice.place state choice.step

-- its moment
abbrev pub moment_at : State → Choice → Moment
moment_at state choice = record {
  act = act_of choice.step;
  before = state;
  reply = (takes state choice).reply;
  after = (takes state choice).state;
}

-- the moments of a run from a state
abbrev pub moments_at : State → List Choice → List Moment
moments_at state [] = []
moments_at state (choice ∷ more) = moment_at state choice ∷ moments_at (takes state choice).state more

-- the state after it
abbrev pub state_after_choices : State → List Choice → State
state_after_choices state [] = state
state_after_choices state (choice ∷ more) = state_after_choices (takes state choice).state more

-- each place is free when it is chosen
abbrev pub AreFree : State → List Choice → Type 0
AreFree state [] = Unit {0}
AreFree state (choice ∷ more) =
    IsFree state.streams choice.place × AreFree (takes state choice).state more

-- how many of the steps may make a stream
abbrev pub makings : List Choice → ℕ
makings choices = count_by (λ choice. is_making (act_of choice.step)) choices

-- THE RUN OF THE MACHINE

-- the step of the machine that a step of the slim state is
abbrev pub step_under : (ℕ → ℕ) → State → State → Choice → Step
step_under f slim full choice = step_as (number_as f slim full) choice.step

-- the numbers after it
abbrev pub numbers_next : (ℕ → ℕ) → State → State → Choice → ℕ → ℕ
numbers_next f slim full choice = numbers_after f choice.place full (takes slim choice).reply

-- the state of the machine after it
abbrev pub full_next : (ℕ → ℕ) → State → State → Choice → State
full_next f slim full choice = (react full (step_under f slim full choice)).state

-- the steps of the machine that a run is
abbrev pub steps_under : (ℕ → ℕ) → State → State → List Choice → List Step
steps_under f slim full [] = []
steps_under f slim full (choice ∷ more) =
    step_under f slim full choice
    ∷ steps_under (numbers_next f slim full choice) (takes slim choice).state (full_next f slim full choice) more

-- the numbers after them
abbrev pub numbers_under : (ℕ → ℕ) → State → State → List Choice → ℕ → ℕ
numbers_under f slim full [] = f
numbers_under f slim full (choice ∷ more) =
    numbers_under (numbers_next f slim full choice) (takes slim choice).state (full_next f slim full choice) more

-- a moment of the machine is one of the slim state under other numbers: the same act and the same reply,
-- but for a stream's number, and before and after it states that are equal but for numbers
pub record IsMomentUnder (f : ℕ → ℕ) (place : ℕ) (slim full : Moment) : Type 0 where
  pub act : full.act ≡ act_as (number_as f slim.before full.before) slim.act
  pub before : Renames f slim.before full.before
  pub reply : full.reply ≡ reply_as (numbers_after f place full.before slim.reply) slim.act slim.reply
  pub after : Renames (numbers_after f place full.before slim.reply) slim.after full.after

-- the same of all moments of two runs
abbrev pub AreMomentsUnder : (ℕ → ℕ) → List ℕ → List Moment → List Moment → Type 0
AreMomentsUnder f [] [] [] = Unit {0}
AreMomentsUnder f (place ∷ places) (m ∷ ms) (k ∷ ks) =
    IsMomentUnder f place m k
    × AreMomentsUnder (numbers_after f place k.before m.reply) places ms ks
AreMomentsUnder f _ _ _ = ⊥

-- a run may be compared with one of the machine: the states are equal but for numbers, the slim one is sound
-- and its handles and ends agree, the places are free, and the machine has a number for each stream that is
-- made
pub record CanRun (f : ℕ → ℕ) (slim full : State) (choices : List Choice) : Type 0 where
  pub renames : Renames f slim full
  pub sound : IsSound slim
  pub hold : HandlesHold slim
  pub free : AreFree slim choices
  pub room : length full.streams + makings choices ≤ stream_limit
