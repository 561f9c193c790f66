-- In a sound state a handle names a stream that was made, of the handle's type.
use Rattle.std.proofs.Common.{◌≡◌, ℕ, zero, suc, ◌<◌, Bool, true, false, cond, List, length, get_or, Option, Some, None, Result, Ok, Err, refl, sym, ap, ◌∙◌, inl, inr, arith}
use Rattle.std.specs.Prelude.{All, IfOk, IfErr}
use Rattle.std.proofs.lemmas.Bool.{cases_lt}
use Rattle.std.proofs.Math.ListN.{get_or-map}
use Rattle.std.proofs.lemmas.List.{length-map, get_or_past}
use Rattle.std.proofs.lemmas.List.Elements.{All-get_or}
use Rattle.strm_machine.specs.Words.{TransmitIndex, Payload, kind_of, payload_of, TransmitKind, AStream, Future, Handles, Entry, NamedEnd, State, guest_in, no_stream, stream_at, Name, named, end_named, IsSound}
use Rattle.strm_codes.specs.declared.codes.TransmitIndex.TheVariants as index
use Rattle.strm_codes.specs.declared.payloads.Payload.TheVariants.{Nothing}
use Rattle.strm_codes.specs.Sameness.{same_payload}
use Rattle.strm_codes.proofs.SamenessLemmas.{Decides-same_payload}
use Rattle.strm_handles.specs.Handles.{entry_in, entry_at}
use Rattle.strm_handles.specs.Lookups.{end_typed, stream_end_in, future_end_in, end_rep_in, ◌>>=◌}
use Rattle.strm_handles.specs.declared.entries.Entry.TheVariants as entries
use Rattle.strm_handles.specs.declared.entries.TransmitEnd.{TransmitEnd}
use Rattle.strm_handles.specs.declared.entries.TransmitLocalState.{TransmitLocalState}
use Rattle.strm_handles.specs.declared.errors.HandleError.{HandleError}
use Rattle.strm_handles.specs.declared.errors.HandleError.TheVariants as errors
use Rattle.strm_machine.specs.Tests.{named_by}
use Rattle.strm_machine.specs.Soundness.{type_with, type_of, types_of, is_idle_state, IsNamed, EntryIsNamed}
use Rattle.strm_machine.proofs.SoundLemmas.{AreNamed-at}

pub entry_named : (types : List TransmitIndex) (es : List (Option Entry)) (n : ℕ) → All (EntryIsNamed types) es → EntryIsNamed types (entry_in es n)
entry_named types es zero h = tt
entry_named types es (suc i) h =
    elim (cases_lt i (length es)) [
      | inl l ↦ All-get_or (EntryIsNamed types) es i None l h
      | inr l ↦ rw (get_or_past es i None l) tt
    ]

-- a stream that was made, of this type
pub record NamesStream (types : List TransmitIndex) (ty : TransmitIndex) (name : ℕ × TransmitLocalState) : Type 0 where
  pub there : name.0 < length types
  pub typed : get_or types name.0 (index.Stream Nothing) ≡ ty
  pub idle : is_idle_state name.1 ≡ true

typed_names : (types : List TransmitIndex) (of : Payload → TransmitIndex) (p : Payload) (end : TransmitEnd) → IsNamed types (of end.ty) end → IfOk (end_typed p end >>= (λ e. Ok (e.rep, e.state))) (NamesStream types (of p))
typed_names types of p end h = both (same_payload end.ty p) refl
  where
    both : (b : Bool) → same_payload end.ty p ≡ b → IfOk (cond b (Ok end) (Err errors.WrongType) >>= (λ e. Ok (e.rep, e.state))) (NamesStream types (of p))
    both true e = record { there = h.there; typed = h.typed ∙ ap of ((Decides-same_payload end.ty p).0 e); idle = h.idle }
    both false e = tt

stream_names : (types : List TransmitIndex) (p : Payload) (o : Option Entry) → EntryIsNamed types o → IfOk (stream_end_in p o >>= (λ e. Ok (e.rep, e.state))) (NamesStream types (index.Stream p))
stream_names types p None h = tt
stream_names types p (Some (entries.Stream end)) h = typed_names types index.Stream p end h
stream_names types p (Some (entries.Future end)) h = tt
stream_names types p (Some (entries.ResourceOwn resource lends)) h = tt
stream_names types p (Some (entries.ResourceBorrow resource scope)) h = tt
stream_names types p (Some (entries.ErrorContext rep)) h = tt
stream_names types p (Some (entries.Subtask rep is_host)) h = tt
stream_names types p (Some (entries.WaitableSet rep)) h = tt

future_names : (types : List TransmitIndex) (p : Payload) (o : Option Entry) → EntryIsNamed types o → IfOk (future_end_in p o >>= (λ e. Ok (e.rep, e.state))) (NamesStream types (index.Future p))
future_names types p None h = tt
future_names types p (Some (entries.Stream end)) h = tt
future_names types p (Some (entries.Future end)) h = typed_names types index.Future p end h
future_names types p (Some (entries.ResourceOwn resource lends)) h = tt
future_names types p (Some (entries.ResourceBorrow resource scope)) h = tt
future_names types p (Some (entries.ErrorContext rep)) h = tt
future_names types p (Some (entries.Subtask rep is_host)) h = tt
future_names types p (Some (entries.WaitableSet rep)) h = tt

named_by-names : (state : State) (g : ℕ) (ty : TransmitIndex) (handle : ℕ) → IsSound state → IfOk (named_by ty (guest_in state.guests g).handles handle) (NamesStream (types_of state.streams) ty)
named_by-names state g (index.Stream payload) handle h =
    stream_names (types_of state.streams) payload _ (entry_named (types_of state.streams) _ handle (AreNamed-at (types_of state.streams) state.guests g h.named))
named_by-names state g (index.Future payload) handle h =
    future_names (types_of state.streams) payload _ (entry_named (types_of state.streams) _ handle (AreNamed-at (types_of state.streams) state.guests g h.named))

named-names : (state : State) (end : NamedEnd) → IsSound state → IfOk (named state end) (NamesStream (types_of state.streams) end.ty)
named-names state end h = named_by-names state end.guest end.ty end.handle h

if_ok : {T : Type 0} (P Q : T → Type 0) (r : Result T HandleError) → ((x : T) → P x → Q x) → IfOk r P → IfOk r Q
if_ok P Q (Ok x) f p = f x p
if_ok P Q (Err e) f p = tt

pub named_there : (state : State) (end : NamedEnd) (r : Name) → IsSound state → r ≡ named state end → IfOk r (λ name. name.0 < length state.streams)
named_there state end r h e =
    rw e (if_ok (NamesStream (types_of state.streams) end.ty) (λ name. name.0 < length state.streams) (named state end) (λ name n. omega (arith, n.there, length-map state.streams type_of)) (named-names state end h))

payload_of-type : (kind : TransmitKind) (p : Payload) → payload_of (type_with kind p) ≡ p
payload_of-type AStream p = refl
payload_of-type Future p = refl

kind_of-type : (kind : TransmitKind) (p : Payload) → kind_of (type_with kind p) ≡ kind
kind_of-type AStream p = refl
kind_of-type Future p = refl

-- the type of the stream that a handle names
pub named_type : (state : State) (end : NamedEnd) (r : Name) → IsSound state → r ≡ named state end → IfOk r (λ name. type_of (stream_at state name.0) ≡ end.ty)
named_type state end r h e =
    rw e (if_ok (NamesStream (types_of state.streams) end.ty) (λ name. type_of (stream_at state name.0) ≡ end.ty) (named state end) (λ name n. sym (get_or-map type_of state.streams name.0 no_stream) ∙ n.typed) (named-names state end h))

pub named_payload : (state : State) (end : NamedEnd) (r : Name) → IsSound state → r ≡ named state end → IfOk r (λ name. (stream_at state name.0).payload ≡ payload_of end.ty)
named_payload state end r h e =
    if_ok (λ name. type_of (stream_at state name.0) ≡ end.ty) (λ name. (stream_at state name.0).payload ≡ payload_of end.ty) r
    (λ name n. sym (payload_of-type (stream_at state name.0).kind (stream_at state name.0).payload) ∙ ap payload_of n) (named_type state end r h e)

pub named_kind : (state : State) (end : NamedEnd) (r : Name) → IsSound state → r ≡ named state end → IfOk r (λ name. (stream_at state name.0).kind ≡ kind_of end.ty)
named_kind state end r h e =
    if_ok (λ name. type_of (stream_at state name.0) ≡ end.ty) (λ name. (stream_at state name.0).kind ≡ kind_of end.ty) r
    (λ name n. sym (kind_of-type (stream_at state name.0).kind (stream_at state name.0).payload) ∙ ap kind_of n) (named_type state end r h e)

pub named_idle : (state : State) (end : NamedEnd) (r : Name) → IsSound state → r ≡ named state end → IfOk r (λ name. is_idle_state name.1 ≡ true)
named_idle state end r h e =
    rw e (if_ok (NamesStream (types_of state.streams) end.ty) (λ name. is_idle_state name.1 ≡ true) (named state end) (λ name n. n.idle) (named-names state end h))

end_there : (types : List TransmitIndex) (o : Option Entry) → EntryIsNamed types o → IfOk (end_rep_in o) (λ name. name.0 < length types)
end_there types None h = tt
end_there types (Some (entries.Stream end)) h = h.there
end_there types (Some (entries.Future end)) h = h.there
end_there types (Some (entries.ResourceOwn resource lends)) h = tt
end_there types (Some (entries.ResourceBorrow resource scope)) h = tt
end_there types (Some (entries.ErrorContext rep)) h = tt
end_there types (Some (entries.Subtask rep is_host)) h = tt
end_there types (Some (entries.WaitableSet rep)) h = tt

-- the stream whose end a handle names, whatever its type, was made
pub end_named_there : (state : State) (g handle : ℕ) (r : Name) → IsSound state → r ≡ end_named state g handle → IfOk r (λ name. name.0 < length state.streams)
end_named_there state g handle r h e =
    rw (e, ← length-map state.streams type_of)
    (end_there (types_of state.streams) (entry_at (guest_in state.guests g).handles handle)
    (entry_named (types_of state.streams) _ handle (AreNamed-at (types_of state.streams) state.guests g h.named)))

-- the refusals of a look-up that asks for no type
abbrev pub IsEndError : HandleError → Type 0
IsEndError errors.UnknownHandle = Unit {0}
IsEndError errors.WrongKind = Unit {0}
IsEndError errors.WrongType = ⊥
IsEndError errors.IndexOverflow = ⊥
IsEndError errors.HandleLimit = ⊥
IsEndError errors.WrongEnd = ⊥
IsEndError errors.Busy = ⊥
IsEndError errors.Lent = ⊥
IsEndError errors.TooManyLends = ⊥
IsEndError errors.OutOfMemory = ⊥

-- the refusals that a look-up of an end has
abbrev pub IsNameError : HandleError → Type 0
IsNameError errors.UnknownHandle = Unit {0}
IsNameError errors.WrongKind = Unit {0}
IsNameError errors.WrongType = Unit {0}
IsNameError errors.IndexOverflow = ⊥
IsNameError errors.HandleLimit = ⊥
IsNameError errors.WrongEnd = ⊥
IsNameError errors.Busy = ⊥
IsNameError errors.Lent = ⊥
IsNameError errors.TooManyLends = ⊥
IsNameError errors.OutOfMemory = ⊥

typed_error : (p : Payload) (end : TransmitEnd) → IfErr {T = ℕ × TransmitLocalState} (end_typed p end >>= (λ e. Ok (e.rep, e.state))) IsNameError
typed_error p end = both (same_payload end.ty p)
  where
    both : (b : Bool) → IfErr {T = ℕ × TransmitLocalState} (cond b (Ok end) (Err errors.WrongType) >>= (λ e. Ok (e.rep, e.state))) IsNameError
    both true = tt
    both false = tt

stream_error : (p : Payload) (o : Option Entry) → IfErr {T = ℕ × TransmitLocalState} (stream_end_in p o >>= (λ e. Ok (e.rep, e.state))) IsNameError
stream_error p None = tt
stream_error p (Some (entries.Stream end)) = typed_error p end
stream_error p (Some (entries.Future end)) = tt
stream_error p (Some (entries.ResourceOwn resource lends)) = tt
stream_error p (Some (entries.ResourceBorrow resource scope)) = tt
stream_error p (Some (entries.ErrorContext rep)) = tt
stream_error p (Some (entries.Subtask rep is_host)) = tt
stream_error p (Some (entries.WaitableSet rep)) = tt

future_error : (p : Payload) (o : Option Entry) → IfErr {T = ℕ × TransmitLocalState} (future_end_in p o >>= (λ e. Ok (e.rep, e.state))) IsNameError
future_error p None = tt
future_error p (Some (entries.Stream end)) = tt
future_error p (Some (entries.Future end)) = typed_error p end
future_error p (Some (entries.ResourceOwn resource lends)) = tt
future_error p (Some (entries.ResourceBorrow resource scope)) = tt
future_error p (Some (entries.ErrorContext rep)) = tt
future_error p (Some (entries.Subtask rep is_host)) = tt
future_error p (Some (entries.WaitableSet rep)) = tt

pub named_by-error : (ty : TransmitIndex) (handles : Handles) (handle : ℕ) → IfErr (named_by ty handles handle) IsNameError
named_by-error (index.Stream payload) handles handle = stream_error payload (entry_at handles handle)
named_by-error (index.Future payload) handles handle = future_error payload (entry_at handles handle)
