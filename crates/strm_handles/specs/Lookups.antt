-- What the look-ups of a table answer: each refusal in its order, else what the entry tells.
-- wasmtime, `handle_table.rs`, the calls of these names; Canonical ABI, "Table State".
use Rattle.std.specs.Prelude.{ℕ, ◌==◌, Bool, if◌then◌else◌, Option, Some, None, Result, Ok, Err}
use Rattle.strm_handles.specs.Words.{Payload, Entry, TransmitEnd, TransmitLocalState, TypedResource, TypedResourceIndex, Waitable, HandleError}
use Rattle.strm_codes.specs.Sameness.{same_payload}
use Rattle.strm_handles.specs.declared.entries.Entry.TheVariants as entry
use Rattle.strm_handles.specs.declared.entries.Waitable.TheVariants as waitable
use Rattle.strm_handles.specs.declared.errors.HandleError.TheVariants.{UnknownHandle, WrongKind, WrongType}
use Rattle.strm_handles.specs.Handles.{HandlesOf, Handles, entry_at}

-- the first refusal stands
infixl 10 ◌>>=◌
abbrev pub ◌>>=◌ : {A B : Type 0} → Result A HandleError → (A → Result B HandleError) → Result B HandleError
Ok x >>= next = next x
Err e >>= next = Err e

-- the end of a stream or future, where its payload is this one
abbrev pub end_typed : Payload → TransmitEnd → Result TransmitEnd HandleError
end_typed ty end = if same_payload end.ty ty then Ok end else Err WrongType

-- the end of a stream of this payload
abbrev pub stream_end_in : Payload → Option Entry → Result TransmitEnd HandleError
stream_end_in ty None = Err UnknownHandle
stream_end_in ty (Some (entry.Stream end)) = end_typed ty end
stream_end_in ty (Some _) = Err WrongKind

-- the end of a stream of this payload that a number stands for
abbrev pub stream_end_of : Handles → Payload → ℕ → Result TransmitEnd HandleError
stream_end_of h ty idx = stream_end_in ty (entry_at h idx)

-- the end of a future of this payload
abbrev pub future_end_in : Payload → Option Entry → Result TransmitEnd HandleError
future_end_in ty None = Err UnknownHandle
future_end_in ty (Some (entry.Future end)) = end_typed ty end
future_end_in ty (Some _) = Err WrongKind

-- the end of a future of this payload that a number stands for
abbrev pub future_end_of : Handles → Payload → ℕ → Result TransmitEnd HandleError
future_end_of h ty idx = future_end_in ty (entry_at h idx)

-- a stream's number, and the state of its end
abbrev pub stream_rep_of : Handles → Payload → ℕ → Result (ℕ × TransmitLocalState) HandleError
stream_rep_of h ty idx = do
  end ← stream_end_of h ty idx
  Ok (end.rep, end.state)

-- a future's number, and the state of its end
abbrev pub future_rep_of : Handles → Payload → ℕ → Result (ℕ × TransmitLocalState) HandleError
future_rep_of h ty idx = do
  end ← future_end_of h ty idx
  Ok (end.rep, end.state)

-- the number of a stream or future, whatever its payload, and the state of its end
abbrev pub end_rep_in : Option Entry → Result (ℕ × TransmitLocalState) HandleError
end_rep_in None = Err UnknownHandle
end_rep_in (Some (entry.Stream end)) = Ok (end.rep, end.state)
end_rep_in (Some (entry.Future end)) = Ok (end.rep, end.state)
end_rep_in (Some _) = Err WrongKind

-- the same of what a number stands for
abbrev pub end_rep_of : Handles → ℕ → Result (ℕ × TransmitLocalState) HandleError
end_rep_of h idx = end_rep_in (entry_at h idx)

-- a resource's number, where its type is this one
abbrev pub typed_rep : ℕ → TypedResource → Result ℕ HandleError
typed_rep ty resource = if resource.ty == ty then Ok resource.rep else Err WrongType

-- the number of a resource of this type, own or borrowed
abbrev pub resource_rep_in : ℕ → Option Entry → Result ℕ HandleError
resource_rep_in ty None = Err UnknownHandle
resource_rep_in ty (Some (entry.ResourceOwn resource lend_count)) = typed_rep ty resource
resource_rep_in ty (Some (entry.ResourceBorrow resource scope)) = typed_rep ty resource
resource_rep_in ty (Some _) = Err WrongKind

-- the number of the resource that a number stands for
abbrev pub resource_rep_of : Handles → TypedResourceIndex → Result ℕ HandleError
resource_rep_of h idx = resource_rep_in idx.ty (entry_at h idx.index)

-- an error context's number
abbrev pub error_context_rep_in : Option Entry → Result ℕ HandleError
error_context_rep_in None = Err UnknownHandle
error_context_rep_in (Some (entry.ErrorContext rep)) = Ok rep
error_context_rep_in (Some _) = Err WrongKind

-- the number of the error context that a number stands for
abbrev pub error_context_rep_of : Handles → ℕ → Result ℕ HandleError
error_context_rep_of h idx = error_context_rep_in (entry_at h idx)

-- a subtask's number, and whether it is a host task
abbrev pub subtask_rep_in : Option Entry → Result (ℕ × Bool) HandleError
subtask_rep_in None = Err UnknownHandle
subtask_rep_in (Some (entry.Subtask rep is_host)) = Ok (rep, is_host)
subtask_rep_in (Some _) = Err WrongKind

-- the same of the subtask that a number stands for
abbrev pub subtask_rep_of : Handles → ℕ → Result (ℕ × Bool) HandleError
subtask_rep_of h idx = subtask_rep_in (entry_at h idx)

-- a waitable set's number
abbrev pub waitable_set_rep_in : Option Entry → Result ℕ HandleError
waitable_set_rep_in None = Err UnknownHandle
waitable_set_rep_in (Some (entry.WaitableSet rep)) = Ok rep
waitable_set_rep_in (Some _) = Err WrongKind

-- the number of the waitable set that a number stands for
abbrev pub waitable_set_rep_of : Handles → ℕ → Result ℕ HandleError
waitable_set_rep_of h idx = waitable_set_rep_in (entry_at h idx)

-- the number and the kind of what may be waited for: subtasks, and ends of streams and futures
abbrev pub waitable_rep_in : Option Entry → Result (ℕ × Waitable) HandleError
waitable_rep_in None = Err UnknownHandle
waitable_rep_in (Some (entry.Subtask rep is_host)) = Ok (rep, waitable.Subtask is_host)
waitable_rep_in (Some (entry.Future end)) = Ok (end.rep, waitable.Future)
waitable_rep_in (Some (entry.Stream end)) = Ok (end.rep, waitable.Stream)
waitable_rep_in (Some _) = Err WrongKind

-- the same of what a number stands for
abbrev pub waitable_rep_of : Handles → ℕ → Result (ℕ × Waitable) HandleError
waitable_rep_of h idx = waitable_rep_in (entry_at h idx)

-- a thread's number; a table of threads has no other kind
abbrev pub guest_thread_rep_in : Option ℕ → Result ℕ HandleError
guest_thread_rep_in None = Err UnknownHandle
guest_thread_rep_in (Some rep) = Ok rep

-- the number of the thread that a number stands for
abbrev pub guest_thread_rep_of : HandlesOf ℕ → ℕ → Result ℕ HandleError
guest_thread_rep_of h idx = guest_thread_rep_in (entry_at h idx)
