-- The words behind the program's name: a chunk and stages. Ours.
use Rattle.std.specs.Prelude.{◌≡◌, ◌≤◌, ℕ, List, ◌∷◌, ◌++◌, length, map, count_by, All, codes, decimal}
use Rattle.strm_lines.specs.Grammar.{IsBetween}
use Rattle.strm_chain.specs.declared.stages.Stage.{Stage}
use Rattle.strm_chain.specs.declared.stages.Stage.TheVariants as stages
use Rattle.strm_chain.specs.Faults.{is_twice}

-- the word of a stage
abbrev pub stage_word : Stage → List ℕ
stage_word stages.Copy = codes "copy"
stage_word (stages.Add k) = codes "add:" ++ decimal k
stage_word (stages.Without k) = codes "without:" ++ decimal k
stage_word stages.Twice = codes "twice"
stage_word stages.Sum = codes "sum"
stage_word (stages.First n) = codes "first:" ++ decimal n

-- a stage that has a word: its number is a byte, or one of 32 bits
abbrev pub HasWord : Stage → Type 0
HasWord (stages.Add k) = IsBetween 0 255 k
HasWord (stages.Without k) = IsBetween 0 255 k
HasWord (stages.First n) = IsBetween 0 4294967295 n
HasWord _ = Unit {0}

-- the words ask for a chain of these stages, at most 8 of them and 2 that are Twice
pub record Asks (words : List (List ℕ)) (chunk : ℕ) (stages : List Stage) : Type 0 where
  pub words_are : words ≡ decimal chunk ∷ map stage_word stages
  pub chunk_is : IsBetween 16 64 chunk
  pub have : All HasWord stages
  pub few : length stages ≤ 8
  pub few_twice : count_by is_twice stages ≤ 2

-- they ask for some chain
abbrev pub IsChainAsked : List (List ℕ) → Type 0
IsChainAsked words = (chunk : ℕ) × (stages : List Stage) × Asks words chunk stages
