-- The resource table behind the error contexts. Ours.
use Rattle.std.specs.Prelude.{◌≡◌, ℕ, ◌≤◌, List, map, length, slice_set, Option, None, option_map}
use Rattle.strm_resources.specs.Nodes.{Node, new_node}
use Rattle.strm_resources.specs.Entries.{Entries, value_at}
use Rattle.strm_error_contexts.specs.Contexts.{Context, Contexts, context_with_handles, AreContextsKept, len}

-- what the table holds, as contexts
abbrev pub contexts_of : Entries Context → Contexts
contexts_of entries = record { slots = entries.values; freed = entries.freed }

-- the node of a context: it has neither parent nor children
abbrev pub lone_node : Option Context → Option Node
lone_node slot = option_map (λ _. new_node None) slot

-- each context with a node of its own
abbrev pub lone_nodes : List (Option Context) → List (Option Node)
lone_nodes slots = map lone_node slots

-- the table with so many handles to the context of a number
abbrev pub with_handles_at : Entries Context → ℕ → ℕ → Entries Context
with_handles_at entries number handles = record entries {
  values = slice_set entries.values number (option_map (context_with_handles handles) (value_at entries number));
}

-- no context is another's child, and so many are there, under numbers of 32 bits
pub record AreContextsHeld (entries : Entries Context) (count : ℕ) : Type 0 where
  pub lone : entries.nodes ≡ lone_nodes entries.values
  pub kept : AreContextsKept (contexts_of entries)
  pub same : count ≡ len (contexts_of entries)
  pub small : length entries.values ≤ 4294967296
