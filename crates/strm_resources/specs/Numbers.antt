-- Numbers in order: those that are in use, and the members of a set.
-- wasmtime, `resource_table.rs`, `iter_entries` and `iter_children`.
use Rattle.std.specs.Prelude.{◌≡◌, ℕ, ◌+◌, List, [], ◌∷◌, Option, Some, None}
use Rattle.std.specs.FinSet as set
use Rattle.std.specs.List.Sorted.{IsStrictlyIncreasing}
use Rattle.strm_resources.specs.Nodes.{Numbers}
use Rattle.strm_resources.specs.Links.{is_among}

-- the numbers of the slots in use, ascending, where the first slot has this number
abbrev pub used_numbers_from : {X : Type 0} → ℕ → List (Option X) → List ℕ
used_numbers_from number [] = []
used_numbers_from number (None ∷ slots) = used_numbers_from (number + 1) slots
used_numbers_from number (Some x ∷ slots) = number ∷ used_numbers_from (number + 1) slots

-- the list has the members of the set, ascending, each once
pub record ListsNumbers (members : Numbers) (numbers : List ℕ) : Type 0 where
  pub ascending : IsStrictlyIncreasing numbers
  pub same : (number : ℕ) → is_among numbers number ≡ set.contains members number
