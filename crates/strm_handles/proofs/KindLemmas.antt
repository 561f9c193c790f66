-- How many handles of a kind a table has after an insert, a removal and a change of an entry.
use Rattle.std.proofs.Common.{◌≡◌, ℕ, ◌+◌, ◌<◌, ◌≤◌, length, Option, Some, None, refl, arith}
use Rattle.std.specs.Prelude.{IsSome, IsOk}
use Rattle.std.proofs.lemmas.List.Sums.{sum_by-le-sum_by}
use Rattle.strm_handles.specs.declared.entries.Entry.{Entry}
use Rattle.strm_handles.specs.declared.entries.Entry.TheVariants as entry
use Rattle.strm_handles.specs.Handles.{Handles, entry_at, inserted, removed, with_entry, occupied_in, occupied, IsTable}
use Rattle.strm_handles.specs.Kinds.{end_in, ends_held, context_in, contexts_held}
use Rattle.strm_handles.specs.Lookups.{end_rep_in}
use Rattle.strm_handles.proofs.HandleLemmas.{given, inserted_sum, sum_by-entries_with}

-- what stands for something was given
found : (h : Handles) (n : ℕ) (o : Option Entry) → entry_at h n ≡ o → IsSome o → (0 < n) × (n ≤ length h.entries)
found h n None is some = cc
found h n (Some e) is some = given h.entries n e is

-- ## Ends

pub ends-inserted : (h : Handles) (e : Entry) → IsTable h → ends_held (inserted h e) ≡ ends_held h + end_in (Some e)
ends-inserted h e s = inserted_sum end_in refl h.entries h.freed e s

pub ends-removed : (h : Handles) (n : ℕ) → IsSome (entry_at h n) → ends_held (removed h n) + end_in (entry_at h n) ≡ ends_held h
ends-removed h n some =
    let g = found h n (entry_at h n) refl some in
    omega (arith, sum_by-entries_with end_in h.entries n None g.0 g.1)

pub ends-changed : (h : Handles) (n : ℕ) (e : Entry) → IsSome (entry_at h n) → end_in (Some e) ≡ end_in (entry_at h n) → ends_held (with_entry h n e) ≡ ends_held h
ends-changed h n e some same =
    let g = found h n (entry_at h n) refl some in
    omega (arith, sum_by-entries_with end_in h.entries n (Some e) g.0 g.1, same)

pub ends-most : (h : Handles) → ends_held h ≤ occupied h
ends-most h = sum_by-le-sum_by end_in occupied_in h.entries by
  where
    by : (o : Option Entry) → end_in o ≤ occupied_in o
    by None = omega arith
    by (Some (entry.Stream end)) = omega arith
    by (Some (entry.Future end)) = omega arith
    by (Some _) = omega arith

-- what is an end counts as one
pub end-counts : (o : Option Entry) → IsOk (end_rep_in o) → end_in o ≡ 1
end-counts None ok = cc
end-counts (Some (entry.Stream end)) ok = refl
end-counts (Some (entry.Future end)) ok = refl
end-counts (Some _) ok = cc

-- and is something
pub end-some : (o : Option Entry) → IsOk (end_rep_in o) → IsSome o
end-some None ok = cc
end-some (Some e) ok = refl

-- ## Error contexts

pub contexts-inserted : (h : Handles) (e : Entry) → IsTable h → contexts_held (inserted h e) ≡ contexts_held h + context_in (Some e)
contexts-inserted h e s = inserted_sum context_in refl h.entries h.freed e s

pub contexts-removed : (h : Handles) (n : ℕ) → IsSome (entry_at h n) → contexts_held (removed h n) + context_in (entry_at h n) ≡ contexts_held h
contexts-removed h n some =
    let g = found h n (entry_at h n) refl some in
    omega (arith, sum_by-entries_with context_in h.entries n None g.0 g.1)

pub contexts-changed : (h : Handles) (n : ℕ) (e : Entry) → IsSome (entry_at h n) → context_in (Some e) ≡ context_in (entry_at h n) → contexts_held (with_entry h n e) ≡ contexts_held h
contexts-changed h n e some same =
    let g = found h n (entry_at h n) refl some in
    omega (arith, sum_by-entries_with context_in h.entries n (Some e) g.0 g.1, same)

pub contexts-most : (h : Handles) → contexts_held h ≤ occupied h
contexts-most h = sum_by-le-sum_by context_in occupied_in h.entries by
  where
    by : (o : Option Entry) → context_in o ≤ occupied_in o
    by None = omega arith
    by (Some (entry.ErrorContext rep)) = omega arith
    by (Some _) = omega arith

-- an end is no error context
pub end-no_context : (o : Option Entry) → IsOk (end_rep_in o) → context_in o ≡ 0
end-no_context None ok = cc
end-no_context (Some (entry.Stream end)) ok = refl
end-no_context (Some (entry.Future end)) ok = refl
end-no_context (Some _) ok = cc
