-- How a word is read as a stage: the inverse of `stage_word`, as `IsReading-stage` shows. Ours.
use Rattle.std.specs.Prelude.{◌≡◌, ℕ, List, map, All, codes, if◌then◌else◌, Option, Some, None}
use Rattle.std.specs.Option.{option_map, option_map_or}
use Rattle.std.specs.Str.{bytes_eq}
use Rattle.strm_lines.specs.Reading.{behind, number_within}
use Rattle.strm_chain.specs.declared.stages.Stage.{Stage}
use Rattle.strm_chain.specs.declared.stages.Stage.TheVariants as stages
use Rattle.strm_chain.specs.Asking.{stage_word, HasWord}

-- a stage that begins with this front and goes on with a number of at most so much
abbrev pub numbered_stage : List ℕ → ℕ → (ℕ → Stage) → List ℕ → Option Stage → Option Stage
numbered_stage front most make word other =
    option_map_or (λ rest. option_map make (number_within 0 most rest)) (behind front word) other

-- a stage that has a number
unfoldable pub numbered_read : List ℕ → Option Stage
numbered_read word =
    numbered_stage (codes "add:") 255 stages.Add word
    (numbered_stage (codes "without:") 255 stages.Without word
    (numbered_stage (codes "first:") 4294967295 stages.First word None))

-- the stage of a word
unfoldable pub stage_read : List ℕ → Option Stage
stage_read word =
    if bytes_eq word (codes "copy") then Some stages.Copy
    else (if bytes_eq word (codes "twice") then Some stages.Twice
    else (if bytes_eq word (codes "sum") then Some stages.Sum else numbered_read word))

-- words are those of stages
pub record SpellsStages (words : List (List ℕ)) (stages : List Stage) : Type 0 where
  pub words_are : words ≡ map stage_word stages
  pub have : All HasWord stages
