-- The loose read end of a stream or future as a value that is used once, and what its calls answer.
-- wasmtime, `futures_and_streams.rs`, `StreamReader`, `FutureReader`, `StreamAny` and `FutureAny`. Ours:
-- the store's tag, and an error where wasmtime panics.
use Rattle.std.specs.Prelude.{◌≡◌, ◌≢◌, ℕ, ◌==◌, ◌||◌, if◌then◌else◌, List, ◌++◌, codes, length, Option, Some, None, Result, Ok, Err, OnOk, OnErr}
use Rattle.strm_codes.specs.Ids.{id_text}
use Rattle.strm_codes.specs.Sameness.{same_payload}
use Rattle.strm_codes.specs.Types.{kind_of, payload_of}
use Rattle.strm_codes.specs.declared.codes.TransmitIndex.{TransmitIndex}
use Rattle.strm_codes.specs.declared.codes.TransmitKind.{TransmitKind}
use Rattle.strm_codes.specs.declared.payloads.Payload.{Payload}
use Rattle.strm_buffers.specs.Tells.{Tells, told_by}
use Rattle.strm_machine.specs.State.{State}
use Rattle.strm_machine.specs.Tests.{same_kind}
use Rattle.strm_host_machine.specs.Does.{Fits}
use Rattle.strm_host_machine.specs.HostRefusals.{is_unknown_host}
use Rattle.strm_host_machine.specs.Releasing.{released, after_release}
use Rattle.strm_machine.specs.Acts.{act_of}
use Rattle.strm_machine.specs.Reactions.{react}
use Rattle.strm_machine.specs.declared.acts.Act.{Act}
use Rattle.strm_machine.specs.declared.acts.Act.TheVariants.{OnHost}
use Rattle.strm_machine.specs.declared.acts.HostAct.TheVariants as host_acts
use Rattle.strm_machine.specs.declared.replies.Reply.TheVariants as replies
use Rattle.strm_machine.specs.declared.steps.Step.TheVariants as steps
use Rattle.strm_transmit.specs.Meets.{as_reply, Meets}
use Rattle.strm_transmit.specs.Hosted.{MeetsHosted}
use Rattle.strm_transmit.specs.declared.errors.StoreError.{StoreError}
use Rattle.strm_transmit.specs.declared.errors.StoreError.TheVariants.{OutOfMemory}
use Rattle.strm_host.specs.declared.read_ends.ReadEnd.{ReadEnd}
use Rattle.strm_host.specs.declared.reader_errors.ReaderError.{ReaderError}
use Rattle.strm_host.specs.declared.reader_errors.ReaderError.TheVariants.{AlreadyClosed, ForeignReader, TypeMismatch, KindMismatch, Store}

-- the loose read end of this stream of the store with this tag
abbrev pub loose_read_end : ℕ → ℕ → ReadEnd
loose_read_end tag stream = record { tag = tag; id = stream }

-- one that was used: no stream has its number
abbrev pub used_read_end : ReadEnd → ReadEnd
used_read_end end = record end { id = 4294967295 }

-- memory had run out
abbrev pub reader_no_memory : ReaderError
reader_no_memory = Store OutOfMemory

-- BEFORE THE STORE IS ASKED

-- why a call is refused of a read end that was used, or is of another store than that with this tag
abbrev pub tested : ReadEnd → ℕ → Option ReaderError
tested end tag =
    if end.id == 4294967295 then Some AlreadyClosed
    else (if end.tag == tag then None else Some (ForeignReader end.tag tag))

-- why a host writer is refused of which a stream or future of this type was asked for
abbrev pub mismatched : TransmitIndex → TransmitKind → Payload → Option ReaderError
mismatched ty kind payload =
    if same_kind (kind_of ty) kind
    then (if same_payload (payload_of ty) payload then None else Some (TypeMismatch (payload_of ty) payload))
    else Some (KindMismatch (kind_of ty) kind)

-- the same of host writer n; a store that is trapped, and a number of no host writer, are left to the
-- store
abbrev pub host_tested : State → Tells → ℕ → TransmitIndex → Option ReaderError
host_tested state tells n ty =
    if state.trapped || is_unknown_host (length tells.writers) n then None
    else mismatched ty (told_by tells n).kind (told_by tells n).payload

-- why a read end without its type is refused as one of this payload
abbrev pub any_tested : ReadEnd → Payload → Payload → Option ReaderError
any_tested end payload expected =
    if end.id == 4294967295 then Some AlreadyClosed
    else (if same_payload expected payload then None else Some (TypeMismatch expected payload))

-- WHAT A CALL ANSWERS

-- what the store answers
abbrev pub as_reader : {A B : Type 0} → (A → B) → Result A StoreError → Result B ReaderError
as_reader f (Ok value) = Ok (f value)
as_reader f (Err error) = Err (Store error)

-- a call of a read end: it is refused and nothing has changed, or it is the store's
abbrev pub CallsReadEnd : {A B : Type 0} → Option ReaderError → Type 0 → (A → B) → (Result A StoreError → Type 0) → Result B ReaderError → Type 0
CallsReadEnd (Some error) Same f Meets result = (result ≡ Err error) × Same
CallsReadEnd {A} None Same f Meets result = (answer : Result A StoreError) × (result ≡ as_reader f answer) × Meets answer

-- a conversion: what is asked for, or what was given with the reason of the refusal
abbrev pub converted : {A B : Type 0} → Option ReaderError → A → B → Result A (B × ReaderError)
converted None asked given = Ok asked
converted (Some error) asked given = Err (given, error)

-- the answer without what was given back
abbrev pub refused_only : {A B : Type 0} → Result A (B × ReaderError) → Result A ReaderError
refused_only (Ok value) = Ok value
refused_only (Err back) = Err (back.1)

-- THE CALLS

-- a stream of a host writer is made, of this type, and its read end is had
abbrev pub Makes : State → State → Tells → ℕ → TransmitIndex → Result ReadEnd ReaderError → Type 0
Makes old new tells writer ty result =
    CallsReadEnd (host_tested old tells writer ty) (new ≡ old) (loose_read_end old.tag)
    (λ answer. MeetsHosted old new tells tells (as_reply replies.Number answer) (OnHost writer host_acts.New)) result

-- the read end of a guest is taken out of it
abbrev pub Lifts : State → State → ℕ → TransmitIndex → ℕ → Result ReadEnd ReaderError → Type 0
Lifts old new guest ty handle result =
    CallsReadEnd None (new ≡ old) (loose_read_end old.tag)
    (λ answer. Meets old new (as_reply replies.Number answer) (react old (steps.Lift guest ty handle))) result

-- a guest is given the read end
abbrev pub LowersReadEnd : ReadEnd → State → State → ℕ → TransmitIndex → Result ℕ ReaderError → Type 0
LowersReadEnd end old new guest ty result =
    CallsReadEnd (tested end old.tag) (new ≡ old) (λ handle. handle)
    (λ answer. Meets old new (as_reply replies.Number answer) (react old (steps.Lower end.id guest ty))) result

-- a call among host ends that answers nothing
abbrev pub CallsAmong : ReadEnd → State → State → Tells → Tells → Act → Result (Unit {0}) ReaderError → Type 0
CallsAmong end old new tells told act result =
    CallsReadEnd (tested end old.tag) ((new ≡ old) × (told ≡ tells)) (λ done. done)
    (λ answer. MeetsHosted old new tells told (as_reply (λ _. replies.Done) answer) act) result

-- the read end is given to host reader r
abbrev pub PipesTo : ReadEnd → State → State → Tells → Tells → ℕ → Result (Unit {0}) ReaderError → Type 0
PipesTo end old new tells told r result = CallsAmong end old new tells told (OnHost r (host_acts.Pipe end.id)) result

-- the read end is dropped
abbrev pub Closes : ReadEnd → State → State → Tells → Tells → Result (Unit {0}) ReaderError → Type 0
Closes end old new tells told result = CallsAmong end old new tells told (act_of (steps.Close end.id)) result

-- after such a call the read end is used, or stays where it failed; and the host ends are those that the store
-- needs
pub record UsesUp (old new : ReadEnd) (store : State) (tells : Tells) (result : Result (Unit {0}) ReaderError) : Type 0 where
  pub ok : OnOk result (new ≡ used_read_end old)
  pub err : OnErr result (new ≡ old)
  pub fits : Fits store tells
  pub takes_no_memory : result ≢ Err reader_no_memory

-- the host writer across is released with the read end, if it may be; its number is answered
abbrev pub ReleasesBy : Option ReaderError → ℕ → State → State → Result (Option ℕ) ReaderError → Type 0
ReleasesBy (Some error) stream old new result = (result ≡ Err error) × (new ≡ old)
ReleasesBy None stream old new result = (result ≡ Ok (released old stream)) × (new ≡ after_release old stream)

-- so of a read end: it is tested first, as in each of its calls
abbrev pub Releases : ReadEnd → State → State → Result (Option ℕ) ReaderError → Type 0
Releases end old new result = ReleasesBy (tested end old.tag) end.id old new result

-- the read end then: it is used where it was released
abbrev pub left_by : Result (Option ℕ) ReaderError → ReadEnd → ReadEnd
left_by (Ok (Some number)) end = used_read_end end
left_by _ end = end

-- HOW IT PRINTS

-- a reader of this type, by the number of its stream
abbrev pub reader_text : List ℕ → ReadEnd → List ℕ
reader_text name end = name ++ codes " { id: " ++ id_text (codes "TransmitHandle") end.id ++ codes " }"
