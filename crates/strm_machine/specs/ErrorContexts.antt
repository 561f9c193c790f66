-- Error contexts, by the handles that name them: their messages, and contexts that are made, transferred
-- and dropped.
-- Canonical ABI, `canon error-context.{new,debug-message,drop}`; wasmtime, `error_context_transfer` and
-- `lower_error_context`. Ours: a message is kept and told whole, in UTF-8.
use Rattle.std.specs.Prelude.{ℕ, ◌==◌, Bool, false, not, List, [], count_by, sum_by, nat_lt, Result, Option, Some, None}
use Rattle.std.specs.Str.{is_utf8}
use Rattle.strm_handles.specs.Handles.{Handles, inserted, removed}
use Rattle.strm_handles.specs.Lookups.{error_context_rep_of}
use Rattle.strm_handles.specs.declared.entries.Entry.{Entry}
use Rattle.strm_handles.specs.declared.entries.Entry.TheVariants as entries
use Rattle.strm_handles.specs.declared.errors.HandleError.{HandleError}
use Rattle.strm_memory.specs.Bytes.{bytes_at}
use Rattle.strm_error_contexts.specs.Contexts.{Contexts, is_context_there, message_at, next_number, inserted as with_message, raised, context_dropped}
use Rattle.strm_machine.specs.State.{State, Guest, guest_in, memory_in, with_handles}
use Rattle.strm_machine.specs.WaitableSets.{number_named}

-- WHAT A HANDLE NAMES

-- what a guest's table answers for the handle of an error context: its number
abbrev pub context_named : State → ℕ → ℕ → Result ℕ HandleError
context_named state g handle = error_context_rep_of (guest_in state.guests g).handles handle

-- the number of the error context that a guest's handle names
abbrev pub context_number : State → ℕ → ℕ → ℕ
context_number state g handle = number_named (context_named state g handle)

-- what a handle stands for is the error context of a number
abbrev pub leads_to : ℕ → Option Entry → Bool
leads_to number (Some (entries.ErrorContext rep)) = number == rep
leads_to number _ = false

-- how many handles of a table lead to the error context of a number
abbrev pub handles_to : ℕ → Handles → ℕ
handles_to number handles = count_by (leads_to number) handles.entries

-- how many of all tables together
abbrev pub all_handles_to : ℕ → List Guest → ℕ
all_handles_to number guests = sum_by (λ g. handles_to number g.handles) guests

-- no error context has this number
abbrev pub is_unknown_context : State → ℕ → Bool
is_unknown_context state number = not (is_context_there state.contexts number)

-- MESSAGES

-- the longest message, in bytes. Ours
abbrev pub message_limit : ℕ
message_limit = 4096

-- so many bytes are no message: they are too many
abbrev pub is_message_too_long : ℕ → Bool
is_message_too_long len = nat_lt message_limit len

-- the bytes of a message, where there is one
abbrev pub bytes_of_message : Option (List ℕ) → List ℕ
bytes_of_message None = []
bytes_of_message (Some message) = message

-- the message of the error context that a guest's handle names
abbrev pub message_named : State → ℕ → ℕ → List ℕ
message_named state g handle =
    bytes_of_message (message_at state.contexts (context_number state g handle))

-- so many bytes of a guest's memory from an address on
abbrev pub message_in : State → ℕ → ℕ → ℕ → List ℕ
message_in state g address len = bytes_at (memory_in state.guests g) address len

-- they are no text
abbrev pub is_bad_text : State → ℕ → ℕ → ℕ → Bool
is_bad_text state g address len = not (is_utf8 (message_in state g address len))

-- WHAT BECOMES OF ERROR CONTEXTS

-- the state with a handle more of a guest, for the error context of a number, and with these error
-- contexts
abbrev pub context_given : State → ℕ → ℕ → Contexts → State
context_given state g number contexts = record state {
  guests = with_handles state.guests g
      (inserted (guest_in state.guests g).handles (entries.ErrorContext number));
  contexts = contexts;
}

-- the state with an error context more, of this message, under a guest's next handle
abbrev pub with_context : State → ℕ → List ℕ → State
with_context state g message =
    context_given state g (next_number state.contexts) (with_message state.contexts message)

-- the state with a handle more of a guest to the error context of a number
abbrev pub with_context_handle : State → ℕ → ℕ → State
with_context_handle state g number = context_given state g number (raised state.contexts number)

-- the state without a handle of a guest to an error context, which goes with its last one
abbrev pub without_context_handle : State → ℕ → ℕ → State
without_context_handle state g handle = record state {
  guests = with_handles state.guests g (removed (guest_in state.guests g).handles handle);
  contexts = context_dropped state.contexts (context_number state g handle);
}
