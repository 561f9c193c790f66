-- What a counter counts of a table, over every call.
-- Ours; wasmtime, `handle_table.rs`, `HandleCounter`.
use Rattle.std.specs.Prelude.{◌≡◌, ℕ, ◌+◌, ◌≤◌, Result}
use Rattle.strm_handles.specs.Words.{Payload, TypedResourceIndex, HandleError}
use Rattle.strm_handles.specs.Changes.{Removes}
use Rattle.strm_handles.specs.Counters.{Counter}
use Rattle.strm_handles.specs.Ends.{stream_readable_of, stream_writable_of, future_readable_of, future_writable_of}
use Rattle.strm_handles.specs.Handles.{HandlesOf, Handles, Table, occupied, live_of}
use Rattle.strm_handles.specs.Lends.{remove_resource_of}
use Rattle.strm_handles.specs.Lookups.{error_context_rep_of, subtask_rep_of, waitable_set_rep_of}

-- the live handles of a table and the counter's have risen or fallen alike
abbrev pub CountsAlike : Handles → Handles → Counter → Counter → Type 0
CountsAlike old new before after = live_of new + before.live ≡ live_of old + after.live

-- the same of a table whose entries are never lent, as one of threads
abbrev pub CountsOccupied : {E : Type 0} → HandlesOf E → HandlesOf E → Counter → Counter → Type 0
CountsOccupied old new before after = occupied new + before.live ≡ occupied old + after.live

-- a removal of number n, which a table answers so, is counted off
abbrev pub IsCountedOff : {A : Type 0} → ℕ → (Handles → Result A HandleError) → Type 0
IsCountedOff n answer =
    (old new : Table) (before after : Counter) → live_of old.handles ≤ before.live →
    Removes old new before after n (answer old.handles) → CountsAlike old.handles new.handles before after

-- each removal is counted off, whatever it answers
pub record RemovalsAreCounted : Type 0 where
  pub stream_read_end : (ty : Payload) (n : ℕ) → IsCountedOff n (λ h. stream_readable_of h ty n)
  pub stream_write_end : (ty : Payload) (n : ℕ) → IsCountedOff n (λ h. stream_writable_of h ty n)
  pub future_read_end : (ty : Payload) (n : ℕ) → IsCountedOff n (λ h. future_readable_of h ty n)
  pub future_write_end : (ty : Payload) (n : ℕ) → IsCountedOff n (λ h. future_writable_of h ty n)
  pub error_context : (n : ℕ) → IsCountedOff n (λ h. error_context_rep_of h n)
  pub subtask : (n : ℕ) → IsCountedOff n (λ h. subtask_rep_of h n)
  pub waitable_set : (n : ℕ) → IsCountedOff n (λ h. waitable_set_rep_of h n)
  pub resource : (idx : TypedResourceIndex) → IsCountedOff idx.index (λ h. remove_resource_of h idx)
