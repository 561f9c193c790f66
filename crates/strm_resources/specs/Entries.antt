-- A resource table as contracts see it: a finite map from numbers to values, with parents and
-- children, and what each call makes of it.
-- wasmtime, `resource_table.rs`, `ResourceTable`.
use Rattle.std.specs.Prelude.{ℕ, List, [], ◌∷◌, length, drop, slice_index_or, slice_set, Option, Some, None, refl}
use Rattle.std.specs.Coded.{Coded, code_by, coded×, coded_ℕ, coded_list, coded_option}
use Rattle.strm_resources.specs.Nodes.{Node, Numbers, node_code, parent_at, children_at, new_node, linked, unlinked, cut, next_node, filled, with_new_child}
use Rattle.strm_resources.specs.Numbers.{used_numbers_from}

-- the value and the node of each number from 0 on, and the freed numbers, the last freed first
pub record Entries (V : Type 0) : Type 0 where
  pub values : List (Option V)
  pub nodes : List (Option Node)
  pub freed : List ℕ

-- a table: what it holds, its capacity, and how many pushes take no memory
pub record EntryTable (V : Type 0) : Type 0 where
  pub entries : Entries V
  pub capacity : ℕ
  pub room : ℕ

-- entries are stored as the tuple of their fields
abbrev pub entries_code : {V : Type 0} → Coded V → Coded (Entries V)
entries_code {V} code =
    code_by
    (List (Option V) × (List (Option Node) × List ℕ))
    (coded×
    (coded_list (coded_option code))
    (coded× (coded_list (coded_option node_code)) (coded_list coded_ℕ)))
    (λ e. (e.values, (e.nodes, e.freed)))
    (λ p. record { values = p.0; nodes = p.1.0; freed = p.1.1 })
    (λ _. refl)

-- and so are tables
abbrev pub table_code : {V : Type 0} → Coded V → Coded (EntryTable V)
table_code {V} code =
    code_by
    (Entries V × (ℕ × ℕ))
    (coded× (entries_code code) (coded× coded_ℕ coded_ℕ))
    (λ t. (t.entries, (t.capacity, t.room)))
    (λ p. record { entries = p.0; capacity = p.1.0; room = p.1.1 })
    (λ _. refl)

module _ {V : Type 0} where
  -- the value of a number, if it has one
  abbrev pub value_at : Entries V → ℕ → Option V
  value_at e number = slice_index_or e.values number None

  -- the parent of a number, if it has one
  abbrev pub parent_of : Entries V → ℕ → Option ℕ
  parent_of e number = parent_at e.nodes number

  -- the children of a number
  abbrev pub children_of : Entries V → ℕ → Numbers
  children_of e number = children_at e.nodes number

  -- the numbers that have a value, ascending
  abbrev pub numbers : Entries V → List ℕ
  numbers e = used_numbers_from 0 e.values

  -- the number that the next push gives: the one freed last, else the next new one
  abbrev pub next_number : Entries V → ℕ
  next_number e = next_node e.freed (length e.nodes)

  -- nothing, and nothing freed
  abbrev pub no_entries : Entries V
  no_entries = record { values = []; nodes = []; freed = [] }

  -- with the value under the next number
  abbrev pub pushed : Entries V → V → Entries V
  pushed e value = record {
    values = filled e.freed e.values value;
    nodes = filled e.freed e.nodes (new_node None);
    freed = drop 1 e.freed;
  }

  -- with the value under the next number, as a child
  abbrev pub pushed_child : Entries V → V → ℕ → Entries V
  pushed_child e value parent = record {
    values = filled e.freed e.values value;
    nodes = with_new_child e.freed e.nodes parent;
    freed = drop 1 e.freed;
  }

  -- with a link from child to parent, and back
  abbrev pub child_added : Entries V → ℕ → ℕ → Entries V
  child_added e child parent = record e { nodes = linked e.nodes child parent }

  -- without that link
  abbrev pub child_removed : Entries V → ℕ → ℕ → Entries V
  child_removed e child parent = record e { nodes = unlinked e.nodes child parent }

  -- with another value under a number
  abbrev pub with_value : Entries V → ℕ → V → Entries V
  with_value e number value = record e { values = slice_set e.values number (Some value) }

  -- without a number, its link to its parent included
  abbrev pub deleted : Entries V → ℕ → Entries V
  deleted e number = record {
    values = slice_set e.values number None;
    nodes = slice_set (cut e.nodes number) number None;
    freed = number ∷ e.freed;
  }
