-- The lines of an input, and what they spell. Ours.
use Rattle.std.specs.Prelude.{◌≡◌, ◌≢◌, ◌⊎◌, ℕ, ◌+◌, ◌-◌, ◌<◌, ◌≤◌, ◌==◌, List, [], ◌∷◌, length, map, take, slice_get, All, if◌then◌else◌, Some}
use Rattle.strm_machine.specs.declared.steps.Step.{Step}
use Rattle.strm_lines.specs.Grammar.{spelling, HasLine}

-- one byte more at the front of the first line
abbrev pub on_first : ℕ → List (List ℕ) → List (List ℕ)
on_first b [] = (b ∷ []) ∷ []
on_first b (line ∷ lines) = (b ∷ line) ∷ lines

-- the lines, each ended by a line feed, which the last may lack
unfoldable pub lines_of : List ℕ → List (List ℕ)
lines_of [] = []
lines_of (b ∷ bytes) = if b == 10 then [] ∷ lines_of bytes else on_first b (lines_of bytes)

-- the number of line feeds
unfoldable pub feeds : List ℕ → ℕ
feeds [] = 0
feeds (b ∷ bytes) = if b == 10 then 1 + feeds bytes else feeds bytes

-- an input over the limits: 16,777,216 bytes and 262,144 lines
abbrev pub IsTooLong : List ℕ → Type 0
IsTooLong bytes = (16777216 < length bytes) ⊎ (262144 < length (lines_of bytes))

-- the lines spell these steps, one each
pub record Spells (lines : List (List ℕ)) (steps : List Step) : Type 0 where
  pub each : lines ≡ map spelling steps
  pub have : All HasLine steps

-- the line of this number, from 1, spells no step, and the lines before it spell some
pub record IsFirstBadLine (lines : List (List ℕ)) (number : ℕ) : Type 0 where
  pub first : 1 ≤ number
  pub last : number ≤ length lines
  pub before : (steps : List Step) × Spells (take (number - 1) lines) steps
  pub bad : (step : Step) → HasLine step → slice_get lines (number - 1) ≢ Some (spelling step)
