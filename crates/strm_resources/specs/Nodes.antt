-- Which number is whose child: the node of each number, and what becomes of nodes.
-- wasmtime, `resource_table.rs`, `TableEntry`, `add_child` and `remove_child`.
use Rattle.std.specs.Prelude.{ℕ, Bool, nat_eq, List, [], ◌∷◌, ◌++◌, length, slice_index_or, slice_set, Option, Some, None, option_map, option_and_then, refl}
use Rattle.std.specs.Coded.{Coded, code_by, coded×, coded_ℕ, coded_option}
use Rattle.std.specs.FinSet as set
use Rattle.std.specs.Ordering.{nat_cmp}

-- a set of numbers
abbrev pub Numbers : Type 0
Numbers = set.FinSet nat_cmp

-- the parent of a number's entry, and the set of its children
pub record Node : Type 0 where
  pub parent : Option ℕ
  pub children : Numbers

-- a node is stored as the pair of its fields
abbrev pub node_code : Coded Node
node_code =
    code_by
    (Option ℕ × Numbers)
    (coded× (coded_option coded_ℕ) (set.code coded_ℕ))
    (λ n. (n.parent, n.children))
    (λ p. record { parent = p.0; children = p.1 })
    (λ _. refl)

-- the node of a number, if it has one
abbrev pub node_at : List (Option Node) → ℕ → Option Node
node_at nodes number = slice_index_or nodes number None

-- the children of a node; none where there is no node
abbrev pub children_of : Option Node → Numbers
children_of None = set.empty
children_of (Some node) = node.children

-- the parent of a number's entry, if it has one
abbrev pub parent_at : List (Option Node) → ℕ → Option ℕ
parent_at nodes number = option_and_then (λ node. node.parent) (node_at nodes number)

-- the children of a number's entry; none for a number that has no entry
abbrev pub children_at : List (Option Node) → ℕ → Numbers
children_at nodes number = children_of (node_at nodes number)

-- no number is in the set
abbrev pub is_childless : Numbers → Bool
is_childless children = nat_eq (set.len children) 0

-- a node with this parent and no children
abbrev pub new_node : Option ℕ → Node
new_node parent = record { parent = parent; children = set.empty }

-- the node with this parent, or with none
abbrev pub with_parent : Option ℕ → Node → Node
with_parent parent node = record node { parent = parent }

-- the node with one child more
abbrev pub with_child : ℕ → Node → Node
with_child child node = record node { children = set.insert node.children child }

-- the node with one child less
abbrev pub without_child : ℕ → Node → Node
without_child child node = record node { children = set.remove node.children child }

-- the nodes, with one of them changed
abbrev pub with_node : (Node → Node) → List (Option Node) → ℕ → List (Option Node)
with_node change nodes number = slice_set nodes number (option_map change (node_at nodes number))

-- the child has its parent, and the parent has its child
abbrev pub linked : List (Option Node) → ℕ → ℕ → List (Option Node)
linked nodes child parent =
    with_node (with_parent (Some parent)) (with_node (with_child child) nodes parent) child

-- the child has no parent, and the parent has not this child
abbrev pub unlinked : List (Option Node) → ℕ → ℕ → List (Option Node)
unlinked nodes child parent =
    with_node (with_parent None) (with_node (without_child child) nodes parent) child

-- the nodes without the link from this child to that parent, where there is one
abbrev pub cut_from : List (Option Node) → ℕ → Option ℕ → List (Option Node)
cut_from nodes child None = nodes
cut_from nodes child (Some parent) = unlinked nodes child parent

-- the nodes, with one of them cut off from its parent
abbrev pub cut : List (Option Node) → ℕ → List (Option Node)
cut nodes child = cut_from nodes child (parent_at nodes child)

-- the number that is given next: the one freed last, else the next new one
abbrev pub next_node : List ℕ → ℕ → ℕ
next_node [] fresh = fresh
next_node (number ∷ freed) fresh = number

-- the slots, with one filled: that of the number freed last, else a new one
abbrev pub filled : {X : Type 0} → List ℕ → List (Option X) → X → List (Option X)
filled [] slots x = slots ++ Some x ∷ []
filled (number ∷ freed) slots x = slice_set slots number (Some x)

-- the nodes, with the next number given as a child
abbrev pub with_new_child : List ℕ → List (Option Node) → ℕ → List (Option Node)
with_new_child freed nodes parent =
    let next = next_node freed (length nodes) in
    filled freed (with_node (with_child next) nodes parent) (new_node (Some parent))
