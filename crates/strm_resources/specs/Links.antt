-- The nodes of a table with its freed numbers, and what always holds of them.
-- wasmtime, `resource_table.rs`, `free_head` and `Entry::Free`.
use Rattle.std.specs.Prelude.{◌≡◌, ℕ, ◌≤◌, Bool, true, false, ◌&&◌, ◌||◌, nat_eq, nat_lt, nat_le, List, [], ◌∷◌, length, Option, Some, None, is_none, refl}
use Rattle.std.specs.Coded.{Coded, code_by, coded×, coded_ℕ, coded_list, coded_option}
use Rattle.std.specs.FinSet as set
use Rattle.std.specs.List.{list_any, IsDistinct}
use Rattle.strm_codes.specs.OptionalNumbers.{is_number}
use Rattle.strm_resources.specs.Nodes.{Node, node_code, node_at, parent_at, children_at}

-- the node of each number from 0 on, the freed numbers, the last freed first, and how many
-- numbers can be given with no allocation
pub record Links : Type 0 where
  pub nodes : List (Option Node)
  pub freed : List ℕ
  pub room : ℕ

-- links are stored as the tuple of their fields
abbrev pub links_code : Coded Links
links_code =
    code_by
    (List (Option Node) × (List ℕ × ℕ))
    (coded× (coded_list (coded_option node_code)) (coded× (coded_list coded_ℕ) coded_ℕ))
    (λ l. (l.nodes, (l.freed, l.room)))
    (λ p. record { nodes = p.0; freed = p.1.0; room = p.1.1 })
    (λ _. refl)

-- the number is among these
abbrev pub is_among : List ℕ → ℕ → Bool
is_among numbers number = list_any (nat_eq number) numbers

-- a number below the length, with no node
abbrev pub is_vacant : List (Option Node) → ℕ → Bool
is_vacant nodes number = nat_lt number (length nodes) && is_none (node_at nodes number)

-- no number is freed
abbrev pub none_freed : List ℕ → Bool
none_freed [] = true
none_freed (number ∷ freed) = false

-- no number can be given: none is freed, and the length is at the capacity, or past u32
abbrev pub is_full : List ℕ → ℕ → ℕ → Bool
is_full freed len capacity = none_freed freed && (nat_le capacity len || nat_lt 4294967295 len)

-- a number is freed, once, exactly where it has no node, and each child link has its parent link
-- and back
pub record IsLinked (nodes : List (Option Node)) (freed : List ℕ) : Type 0 where
  pub vacant : (number : ℕ) → is_among freed number ≡ is_vacant nodes number
  pub apart : IsDistinct nat_eq freed
  pub linked : (child parent : ℕ) → set.contains (children_at nodes parent) child
      ≡ is_number (parent_at nodes child) parent

-- the links are kept, there is room for the freed numbers, and each number is a u32
pub record AreNodesHeld (nodes : List (Option Node)) (freed : List ℕ) (capacity : ℕ) : Type 0 where
  pub kept : IsLinked nodes freed
  pub reserved : length nodes ≤ capacity
  pub small : length nodes ≤ 4294967296
