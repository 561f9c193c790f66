-- How many handles of a table are of a kind that is bounded by itself: ends of streams and futures, and error
-- contexts. Ours; what a handle stands for is wasmtime's, `handle_table.rs`.
use Rattle.std.specs.Prelude.{◌≡◌, ℕ, sum_by, Option, Some}
use Rattle.strm_handles.specs.declared.entries.Entry.{Entry}
use Rattle.strm_handles.specs.declared.entries.Entry.TheVariants as entry
use Rattle.strm_handles.specs.declared.tables.HandleTable.TheInside.{Inside}
use Rattle.strm_handles.specs.Handles.{Handles}

-- what stands for an end of a stream or future counts as one
abbrev pub end_in : Option Entry → ℕ
end_in (Some (entry.Stream end)) = 1
end_in (Some (entry.Future end)) = 1
end_in _ = 0

-- the ends of streams and futures in a table
abbrev pub ends_held : Handles → ℕ
ends_held h = sum_by end_in h.entries

-- what stands for an error context counts as one
abbrev pub context_in : Option Entry → ℕ
context_in (Some (entry.ErrorContext rep)) = 1
context_in _ = 0

-- the handles of error contexts in a table
abbrev pub contexts_held : Handles → ℕ
contexts_held h = sum_by context_in h.entries

-- a table keeps how many it has of each
pub record IsTallied (t : Inside) : Type 0 where
  pub ends : t.ends ≡ ends_held t.slots.handles
  pub contexts : t.contexts ≡ contexts_held t.slots.handles
