-- The limits of a guest: how much it may have at once, and when a call would give it more. Ours.
use Rattle.std.specs.Prelude.{ℕ, ◌+◌, ◌*◌, ◌==◌, ◌≤◌, max, Bool, false, ◌&&◌, ◌||◌, not, if◌then◌else◌, List, length, sum_by, nat_lt, slice_index_or, Option, Some, Result, Ok}
use Rattle.strm_codes.specs.declared.refusals.Refusal.{Refusal}
use Rattle.strm_error_contexts.specs.Contexts.{Contexts, message_at}
use Rattle.strm_handles.specs.declared.entries.Entry.{Entry}
use Rattle.strm_handles.specs.declared.entries.Entry.TheVariants as entries
use Rattle.strm_machine.specs.State.{State, guest_in}
use Rattle.strm_machine.specs.Tests.{is_unknown_guest}
use Rattle.strm_machine.specs.ErrorContexts.{message_limit, bytes_of_message}
use Rattle.strm_machine.specs.declared.steps.Step.{Step}
use Rattle.strm_machine.specs.declared.steps.Step.TheVariants as steps
use Rattle.strm_transmit.specs.Counts.{handle_counts}
use Rattle.strm_transmit.specs.Queries.{of_guest}
use Rattle.strm_transmit.specs.declared.store.counts.GuestCounts.{GuestCounts}
use Rattle.strm_guest_store.specs.declared.guest_limits.Gain.{Gain}
use Rattle.strm_guest_store.specs.declared.guest_limits.Gain.TheVariants.{Ends, Set, Context}
use Rattle.strm_guest_store.specs.declared.guest_limits.GuestLimits.{GuestLimits}

-- no bound: a guest has fewer than 2^28 handles, and each keeps 4,096 bytes at most
abbrev pub unbounded : GuestLimits
unbounded = record { handles = 4294967295; ends = 4294967295; bytes = 18446744073709551615 }

-- the limits of a guest, which is without a bound where none was set
abbrev pub limits_of : List GuestLimits → ℕ → GuestLimits
limits_of limits g = slice_index_or limits g unbounded

-- what is answered of a guest's limits
abbrev pub limits_answer : State → List GuestLimits → ℕ → Result GuestLimits Refusal
limits_answer state limits g = of_guest state g (Ok (limits_of limits g))

-- WHAT A GUEST HAS

-- what is kept for so many handles of error contexts: each counts as the longest message
abbrev pub bytes_for : ℕ → ℕ
bytes_for contexts = message_limit * contexts

-- the bytes of the message that a handle leads to, if it is one of an error context
abbrev pub message_size : Contexts → Option Entry → ℕ
message_size contexts (Some (entries.ErrorContext number)) = length (bytes_of_message (message_at contexts number))
message_size contexts _ = 0

-- those of all handles of a guest together
abbrev pub messages_held : State → ℕ → ℕ
messages_held state g = sum_by (message_size state.contexts) (guest_in state.guests g).handles.entries

-- of each it has afterwards no more than it had, or than its limits allow
pub record GetsNoMore (limits : GuestLimits) (old new : GuestCounts) : Type 0 where
  pub handles : new.handles ≤ max limits.handles old.handles
  pub ends : new.ends ≤ max limits.ends old.ends
  pub bytes : bytes_for new.contexts ≤ max limits.bytes (bytes_for old.contexts)

-- how much a guest has
abbrev pub counts_in : State → ℕ → GuestCounts
counts_in state g = handle_counts (guest_in state.guests g).handles

-- WHAT A CALL WOULD GIVE IT

-- so many handles more of ends would pass a limit: that on handles, or that on ends
abbrev pub passes_by_ends : GuestLimits → GuestCounts → ℕ → Bool
passes_by_ends limits counts more =
    nat_lt limits.handles (counts.handles + more) || nat_lt limits.ends (counts.ends + more)

-- a handle more of a waitable set would
abbrev pub passes_by_set : GuestLimits → GuestCounts → Bool
passes_by_set limits counts = nat_lt limits.handles (counts.handles + 1)

-- a handle more of an error context would: that on handles, or that on bytes
abbrev pub passes_by_context : GuestLimits → GuestCounts → Bool
passes_by_context limits counts =
    nat_lt limits.handles (counts.handles + 1) || nat_lt limits.bytes (bytes_for (counts.contexts + 1))

-- what a call would give would pass a limit
abbrev pub passes_limits : GuestLimits → GuestCounts → Gain → Bool
passes_limits limits counts (Ends count) = passes_by_ends limits counts count
passes_limits limits counts Set = passes_by_set limits counts
passes_limits limits counts Context = passes_by_context limits counts

-- a call would give a guest more than its limits allow. Of a guest that is not there the store's own answer
-- tells
abbrev pub is_past : State → List GuestLimits → ℕ → Gain → Bool
is_past state limits g gain =
    not (is_unknown_guest state g) && passes_limits (limits_of limits g) (counts_in state g) gain

-- the making of a stream between two guests, which may be one, would give one of them more than that
abbrev pub is_pair_past : State → List GuestLimits → ℕ → ℕ → Bool
is_pair_past state limits writer reader =
    if writer == reader then is_past state limits writer (Ends 2)
    else is_past state limits writer (Ends 1) || is_past state limits reader (Ends 1)

-- the move of an end would: to the same guest it gives nothing, since the end's handle is freed
abbrev pub is_move_past : State → List GuestLimits → ℕ → ℕ → Bool
is_move_past state limits g to = not (g == to) && is_past state limits to (Ends 1)

-- a step would
abbrev pub is_step_past : State → List GuestLimits → Step → Bool
is_step_past state limits (steps.New g ty) = is_past state limits g (Ends 2)
is_step_past state limits (steps.Between writer reader ty) = is_pair_past state limits writer reader
is_step_past state limits (steps.Move g ty handle to) = is_move_past state limits g to
is_step_past state limits (steps.Lower reader g ty) = is_past state limits g (Ends 1)
is_step_past state limits (steps.SetNew g) = is_past state limits g Set
is_step_past state limits (steps.ErrNew g address len) = is_past state limits g Context
is_step_past state limits (steps.ErrMove g handle to) = is_past state limits to Context
is_step_past state limits step = false
