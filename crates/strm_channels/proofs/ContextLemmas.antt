-- A handle to an error context less, in one table.
use Rattle.std.proofs.Common.{◌≡◌, ℕ, ◌+◌, Ok, arith}
use Rattle.strm_handles.specs.Handles.{Handles, entry_at, removed, live_of}
use Rattle.strm_handles.specs.Lookups.{error_context_rep_of}
use Rattle.strm_handles.specs.declared.entries.Entry.TheVariants as entries
use Rattle.strm_handles.proofs.HandleLemmas.{live_of-removed}
use Rattle.strm_machine.proofs.ErrorContextLemmas.{context_entry}

-- it is a live handle less
pub context_live : (handles : Handles) (n number : ℕ) → error_context_rep_of handles n ≡ Ok number → live_of (removed handles n) + 1 ≡ live_of handles
context_live handles n number e =
    omega (arith, live_of-removed handles n (entries.ErrorContext number) (context_entry (entry_at handles n) number e))
