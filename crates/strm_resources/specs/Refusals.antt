-- Which call of a resource table is refused, and how: the first refusal that applies.
-- wasmtime, `resource_table.rs`, the errors and assertions of each call; `HasParent` and `NotChild`
-- are ours, in place of assertions.
use Rattle.std.specs.Prelude.{ℕ, nat_eq, length, if◌then◌else◌, Option, Some, None, is_some, is_none}
use Rattle.strm_resources.specs.Nodes.{is_childless}
use Rattle.strm_resources.specs.Links.{is_full}
use Rattle.strm_codes.specs.OptionalNumbers.{is_number}
use Rattle.strm_resources.specs.Entries.{Entries, EntryTable, value_at, parent_of, children_of}
use Rattle.strm_resources.specs.declared.errors.ResourceTableError.{ResourceTableError}
use Rattle.strm_resources.specs.declared.errors.ResourceTableError.TheVariants.{Full, NotPresent, WrongType, HasChildren, HasParent, NotChild}

module _ {V : Type 0} where
  -- none is free and the length is at the capacity or above, or past u32
  abbrev pub push_refusal : EntryTable V → Option ResourceTableError
  push_refusal t =
      if is_full t.entries.freed (length t.entries.nodes) t.capacity then Some Full else None

  -- the parent first, then as a push
  abbrev pub push_child_refusal : EntryTable V → ℕ → Option ResourceTableError
  push_child_refusal t parent =
      if is_none (value_at t.entries parent) then Some NotPresent else push_refusal t

  -- the child, its parent, and then the parent that is named
  abbrev pub add_child_refusal : Entries V → ℕ → ℕ → Option ResourceTableError
  add_child_refusal e child parent =
      if is_none (value_at e child) then Some NotPresent
      else (if is_some (parent_of e child) then Some HasParent
      else (if is_none (value_at e parent) then Some NotPresent else None))

  -- the child, and then whether it is a child of that parent
  abbrev pub remove_child_refusal : Entries V → ℕ → ℕ → Option ResourceTableError
  remove_child_refusal e child parent =
      if is_none (value_at e child) then Some NotPresent
      else (if is_number (parent_of e child) parent then None else Some NotChild)

  -- a number with no value
  abbrev pub any_refusal : Entries V → ℕ → Option ResourceTableError
  any_refusal e number = if is_none (value_at e number) then Some NotPresent else None

  module _ (kind : V → ℕ) (tag : ℕ) where
    -- no value, or one of another kind
    abbrev pub kind_refusal : Option V → Option ResourceTableError
    kind_refusal None = Some NotPresent
    kind_refusal (Some value) = if nat_eq (kind value) tag then None else Some WrongType

    -- by the value of the number
    abbrev pub get_refusal : Entries V → ℕ → Option ResourceTableError
    get_refusal e number = kind_refusal (value_at e number)

    -- no value, then children, then another kind
    abbrev pub delete_refusal : Entries V → ℕ → Option ResourceTableError
    delete_refusal e number =
        if is_none (value_at e number) then Some NotPresent
        else (if is_childless (children_of e number) then kind_refusal (value_at e number)
        else Some HasChildren)
