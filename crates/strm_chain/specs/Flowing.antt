-- What flows through a chain: what each stream received, as bytes. Ours.
use Rattle.std.specs.Prelude.{◌≡◌, ℕ, ◌+◌, ◌≤◌, ◌<◌, ℤ, pos, List, [], ◌∷◌, length, take, map, slice_index_or, Option, Some}
use Rattle.strm_machine.specs.declared.steps.Step.{Step}
use Rattle.strm_laws.specs.Conservation.{moments, got}
use Rattle.strm_chain.specs.declared.stages.Stage.{Stage}
use Rattle.strm_chain.specs.declared.stages.Stage.TheVariants.{Copy}
use Rattle.strm_chain.specs.Stages.{of}
use Rattle.strm_laws.specs.Starts.{run_start}

-- bytes as they are received on a stream of bytes
abbrev pub as_items : List ℕ → List (Option (List ℤ))
as_items bytes = map (λ b. Some (pos b ∷ [])) bytes

-- what was received on stream i in the run of these steps
abbrev pub got_on : List Step → ℕ → List (Option (List ℤ))
got_on steps i = got i (moments run_start steps)

-- one list is the front of another
abbrev pub IsFront : List ℕ → List ℕ → Type 0
IsFront front whole = front ≡ take (length front) whole

-- the stage that stands behind stream i, from 0 on; past the last one, a copy
abbrev pub stage_at : List Stage → ℕ → Stage
stage_at stages i = slice_index_or stages i Copy

-- the streams of a chain carried these bytes: on stream 0 a front of the input, and behind each stage a
-- front of what it makes of what was received before it
pub record Flows (stages : List Stage) (input written : List ℕ) (steps : List Step) : Type 0 where
  pub bytes : ℕ → List ℕ
  pub received : (i : ℕ) → i ≤ length stages → got_on steps i ≡ as_items (bytes i)
  pub first : IsFront (bytes 0) input
  pub behind : (i : ℕ) → i < length stages →
      IsFront (bytes (i + 1)) (of (stage_at stages i) (bytes i))
  pub output : written ≡ bytes (length stages)
