-- The error contexts of a store: under each number a message, and how many handles lead to it.
-- Component Model, `canon error-context.{new,debug-message,drop}`; wasmtime, `ErrorContextState` and
-- `GlobalErrorContextRefCount`. Ours: a message is kept whole, and the number freed last is given
-- first, as a resource table gives it.
use Rattle.std.specs.Prelude.{◌≡◌, ℕ, ◌+◌, ◌-◌, ◌<◌, Bool, true, not, ◌&&◌, nat_eq, nat_lt, if◌then◌else◌, List, [], ◌∷◌, length, drop, slice_index_or, slice_set, count_by, Option, Some, None, option_map, is_some, refl}
use Rattle.std.specs.Coded.{Coded, code_by, coded×, coded_ℕ, coded_list, coded_option}
use Rattle.std.specs.List.{IsDistinct}
use Rattle.strm_resources.specs.Nodes.{next_node, filled}
use Rattle.strm_resources.specs.Links.{is_among}

-- an error context: its message, as UTF-8, and the number of handles to it in all tables
pub record Context : Type 0 where
  pub message : List ℕ
  pub handles : ℕ

-- the error context of each number from 0 on, and the freed numbers, the last freed first
pub record Contexts : Type 0 where
  pub slots : List (Option Context)
  pub freed : List ℕ

-- a context is stored as the pair of its fields
abbrev pub context_code : Coded Context
context_code =
    code_by
    (List ℕ × ℕ)
    (coded× (coded_list coded_ℕ) coded_ℕ)
    (λ c. (c.message, c.handles))
    (λ p. record { message = p.0; handles = p.1 })
    (λ _. refl)

-- and so are the contexts of a store
abbrev pub contexts_code : Coded Contexts
contexts_code =
    code_by
    (List (Option Context) × List ℕ)
    (coded× (coded_list (coded_option context_code)) (coded_list coded_ℕ))
    (λ c. (c.slots, c.freed))
    (λ p. record { slots = p.0; freed = p.1 })
    (λ _. refl)

-- no contexts, and no number freed
abbrev pub no_contexts : Contexts
no_contexts = record { slots = []; freed = [] }

-- the context of a number, if it has one
abbrev pub context_at : Contexts → ℕ → Option Context
context_at contexts number = slice_index_or contexts.slots number None

-- a context has this number
abbrev pub is_context_there : Contexts → ℕ → Bool
is_context_there contexts number = is_some (context_at contexts number)

-- the message of a context
abbrev pub message_at : Contexts → ℕ → Option (List ℕ)
message_at contexts number = option_map (λ context. context.message) (context_at contexts number)

-- the number of handles to a context; none where there is no context
abbrev pub handles_of_context : Option Context → ℕ
handles_of_context None = 0
handles_of_context (Some context) = context.handles

-- the number of handles to the context of a number; none where it has none
abbrev pub context_count_at : Contexts → ℕ → ℕ
context_count_at contexts number = handles_of_context (context_at contexts number)

-- how many contexts there are
abbrev pub len : Contexts → ℕ
len contexts = count_by is_some contexts.slots

-- the number that the next context gets: the one freed last, else the next new one
abbrev pub next_number : Contexts → ℕ
next_number contexts = next_node contexts.freed (length contexts.slots)

-- a context with this message, and one handle
abbrev pub new_context : List ℕ → Context
new_context message = record { message = message; handles = 1 }

-- a context more, under the next number
abbrev pub inserted : Contexts → List ℕ → Contexts
inserted contexts message = record {
  slots = filled contexts.freed contexts.slots (new_context message);
  freed = drop 1 contexts.freed;
}

-- a context with so many handles
abbrev pub context_with_handles : ℕ → Context → Context
context_with_handles handles context = record context { handles = handles }

-- so many handles to the context of a number
abbrev pub context_counted : Contexts → ℕ → ℕ → Contexts
context_counted contexts number handles = record contexts {
  slots = slice_set contexts.slots number (option_map (context_with_handles handles) (context_at contexts number));
}

-- a handle more to a context
abbrev pub raised : Contexts → ℕ → Contexts
raised contexts number = context_counted contexts number (context_count_at contexts number + 1)

-- a handle less to a context that has several
abbrev pub context_lowered : Contexts → ℕ → Contexts
context_lowered contexts number = context_counted contexts number (context_count_at contexts number - 1)

-- without a context, whose number is given first from now on
abbrev pub removed : Contexts → ℕ → Contexts
removed contexts number = record {
  slots = slice_set contexts.slots number None;
  freed = number ∷ contexts.freed;
}

-- a handle less to a context, which goes with its last
abbrev pub context_dropped : Contexts → ℕ → Contexts
context_dropped contexts number =
    if nat_lt 1 (context_count_at contexts number) then context_lowered contexts number else removed contexts number

-- a context that is there has a handle, and the freed numbers are those below the length that have no
-- context, each once
pub record AreContextsKept (contexts : Contexts) : Type 0 where
  pub handled : (number : ℕ) → is_context_there contexts number ≡ true → 0 < context_count_at contexts number
  pub vacant : (number : ℕ) → is_among contexts.freed number
      ≡ (nat_lt number (length contexts.slots) && not (is_context_there contexts number))
  pub apart : IsDistinct nat_eq contexts.freed
