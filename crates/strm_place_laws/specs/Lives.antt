-- The life of a stream in a store that gives numbers again: the moments since it was made. Ours.
use Rattle.std.specs.Prelude.{ℕ, ◌≤◌, ◌^◌, ◌==◌, Bool, false, ◌&&◌, if◌then◌else◌, List, [], ◌∷◌, ◌++◌, length, All}
use Rattle.strm_machine.specs.State.{State, empty}
use Rattle.strm_machine.specs.Moments.{Moment}
use Rattle.strm_machine.specs.declared.limits.Limits.{Limits}
use Rattle.strm_machine.specs.declared.replies.Reply.{Reply}
use Rattle.strm_machine.specs.declared.replies.Reply.TheVariants as replies
use Rattle.strm_laws.specs.Laws.{StepHasBytes}
use Rattle.strm_places.specs.Again.{is_making}
use Rattle.strm_place_laws.specs.Runs.{Choice, moments_at, state_after_choices, AreFree}

-- a reply tells of a stream of this number that was made
abbrev pub tells_made : ℕ → Reply → Bool
tells_made s (replies.Pair pair) = pair.stream == s
tells_made s reply = false

-- in this moment a stream of this number was made
abbrev pub is_made_in : ℕ → Moment → Bool
is_made_in s m = is_making m.act && tells_made s m.reply

-- behind these moments, those since the stream of a number was made
abbrev pub life_behind : ℕ → List Moment → List Moment → List Moment
life_behind s lived [] = lived
life_behind s lived (m ∷ more) = life_behind s (if is_made_in s m then [] else lived ++ m ∷ []) more

-- the moments since the stream of a number, the last that had it, was made
abbrev pub life : ℕ → List Moment → List Moment
life s all = life_behind s [] all

-- a new store's run, by the steps and the places that were chosen
abbrev pub run_of : ℕ → Limits → List Choice → List Moment
run_of tag limits choices = moments_at (empty tag limits) choices

-- the state after it
abbrev pub end_of_run : ℕ → Limits → List Choice → State
end_of_run tag limits choices = state_after_choices (empty tag limits) choices

-- what is put into a memory by a step is bytes
abbrev pub ChoiceHasBytes : Choice → Type 0
ChoiceHasBytes choice = StepHasBytes choice.step

-- a run that a new store may make: each place is free when it is chosen, there are at most 2^99 steps, and
-- what is put into memories is bytes
pub record CanBeRun (tag : ℕ) (limits : Limits) (choices : List Choice) : Type 0 where
  pub free : AreFree (empty tag limits) choices
  pub few : length choices ≤ 2 ^ 99
  pub bytes : All ChoiceHasBytes choices
