-- Resources that are lent and removed.
-- wasmtime, `handle_table.rs`, `resource_lend`, `resource_undo_lend` and `remove_resource`.
use Rattle.std.specs.Prelude.{ℕ, ◌+◌, ◌-◌, ◌<◌, ◌==◌, nat_le, Bool, true, false, if◌then◌else◌, Option, Some, None, Result, Ok, Err}
use Rattle.strm_handles.specs.Words.{Entry, RemovedResource, TypedResourceIndex, HandleError}
use Rattle.strm_handles.specs.declared.entries.Entry.TheVariants as entry
use Rattle.strm_handles.specs.declared.entries.RemovedResource.TheVariants as removed
use Rattle.strm_handles.specs.declared.errors.HandleError.TheVariants.{UnknownHandle, WrongKind, Lent, TooManyLends, HandleLimit}
use Rattle.strm_handles.specs.Counters.{Counter}
use Rattle.strm_handles.specs.Handles.{Handles, entry_at, with_entry}
use Rattle.strm_handles.specs.Lookups.{◌>>=◌, typed_rep}

-- the lend of an own resource, which has so many: its number, and that it is own
abbrev pub own_lend : Counter → ℕ → ℕ → Result (ℕ × Bool) HandleError
own_lend counter lend_count rep =
    if lend_count == 4294967295 then Err TooManyLends
    else (if nat_le counter.limit counter.live then Err HandleLimit
    else Ok (rep, true))

-- the lend of an entry; that of a borrowed resource is not counted
abbrev pub resource_lend_in : Counter → ℕ → Option Entry → Result (ℕ × Bool) HandleError
resource_lend_in counter ty None = Err UnknownHandle
resource_lend_in counter ty (Some (entry.ResourceOwn resource lend_count)) = do
  rep ← typed_rep ty resource
  own_lend counter lend_count rep
resource_lend_in counter ty (Some (entry.ResourceBorrow resource scope)) = do
  rep ← typed_rep ty resource
  Ok (rep, false)
resource_lend_in counter ty (Some _) = Err WrongKind

-- what the lend of a number answers
abbrev pub resource_lend_of : Handles → Counter → TypedResourceIndex → Result (ℕ × Bool) HandleError
resource_lend_of h counter idx = resource_lend_in counter idx.ty (entry_at h idx.index)

-- only the lend of an own resource can be undone
abbrev pub resource_undo_lend_in : Option Entry → Result (Unit {0}) HandleError
resource_undo_lend_in None = Err UnknownHandle
resource_undo_lend_in (Some (entry.ResourceOwn resource lend_count)) = Ok tt
resource_undo_lend_in (Some _) = Err WrongKind

-- what undoing a lend answers; the type that the index names is not looked at
abbrev pub resource_undo_lend_of : Handles → TypedResourceIndex → Result (Unit {0}) HandleError
resource_undo_lend_of h idx = resource_undo_lend_in (entry_at h idx.index)

-- an own resource, where one is, has an open lend
abbrev pub HasLend : Option Entry → Type 0
HasLend (Some (entry.ResourceOwn resource lend_count)) = 0 < lend_count
HasLend _ = Unit {0}

-- an own resource, where one is, has a lend more
abbrev pub lent_in : Handles → ℕ → Option Entry → Handles
lent_in h n (Some (entry.ResourceOwn resource lend_count)) =
    with_entry h n (entry.ResourceOwn resource (lend_count + 1))
lent_in h n _ = h

-- the handles after a lend
abbrev pub lent : Handles → ℕ → Handles
lent h n = lent_in h n (entry_at h n)

-- an own resource, where one is, has a lend less
abbrev pub returned_in : Handles → ℕ → Option Entry → Handles
returned_in h n (Some (entry.ResourceOwn resource lend_count)) =
    with_entry h n (entry.ResourceOwn resource (lend_count - 1))
returned_in h n _ = h

-- the handles after a lend is undone
abbrev pub returned : Handles → ℕ → Handles
returned h n = returned_in h n (entry_at h n)

-- what a removed resource was; one that is lent stays, whatever its type
abbrev pub remove_resource_in : ℕ → Option Entry → Result RemovedResource HandleError
remove_resource_in ty None = Err UnknownHandle
remove_resource_in ty (Some (entry.ResourceOwn resource lend_count)) =
    if lend_count == 0 then (typed_rep ty resource >>= (λ rep. Ok (removed.Own rep))) else Err Lent
remove_resource_in ty (Some (entry.ResourceBorrow resource scope)) = do
  rep ← typed_rep ty resource
  Ok (removed.Borrow scope)
remove_resource_in ty (Some _) = Err WrongKind

-- what the removal of a resource answers
abbrev pub remove_resource_of : Handles → TypedResourceIndex → Result RemovedResource HandleError
remove_resource_of h idx = remove_resource_in idx.ty (entry_at h idx.index)
