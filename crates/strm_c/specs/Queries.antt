-- What is asked of a store and changes nothing of it. Ours.
use Rattle.std.specs.Prelude.{ℕ, ◌+◌, ◌*◌, Option, Some, None, Result, Ok, Err}
use Rattle.strm_machine.specs.State.{State}
use Rattle.strm_machine.specs.Refusals.{first_of, context_reasons, bytes_reasons}
use Rattle.strm_machine.specs.ErrorContexts.{context_number}
use Rattle.strm_machine.specs.declared.streams.Owner.{Owner}
use Rattle.strm_machine.specs.declared.streams.Owner.TheVariants.{Held, Loose, Host, Gone}
use Rattle.strm_machine.specs.declared.streams.Side.{Side}
use Rattle.strm_machine.specs.declared.streams.Side.TheVariants.{Writing, Reading}
use Rattle.strm_codes.specs.declared.refusals.Refusal.{Refusal}
use Rattle.strm_transmit.specs.Meets.{admitted, or_found}
use Rattle.strm_transmit.specs.declared.errors.StoreError.{StoreError}
use Rattle.strm_transmit.specs.declared.store.queries.EndInfo.{EndInfo}
use Rattle.strm_transmit.specs.declared.store.queries.Handle.{Handle}
use Rattle.strm_transmit.specs.declared.store.queries.Handle.TheVariants as handles
use Rattle.strm_c.specs.Payloads.{type_word}
use Rattle.strm_c.specs.Statuses.{event_word}
use Rattle.strm_c.specs.declared.exports.queries.StrmHandle.{StrmHandle}
use Rattle.strm_c.specs.declared.exports.stores.StrmCount.{StrmCount}

-- the number of the error context that a guest's handle names
abbrev pub context_answer : State → ℕ → ℕ → Result ℕ StoreError
context_answer state guest handle =
    admitted state
    (or_found (first_of (context_reasons state guest handle)) (context_number state guest handle))

-- whether so many bytes of a guest's memory may be looked at
abbrev pub bytes_answer : State → ℕ → ℕ → ℕ → Result (Unit {0}) Refusal
bytes_answer state guest address len = or_found (first_of (bytes_reasons state guest address len)) tt

-- a count in two words
abbrev pub count_in_words : StrmCount → ℕ
count_in_words count = count.low + 18446744073709551616 * count.high

-- WHAT IS TOLD OF A HANDLE

-- the word of a side
abbrev pub side_word : Side → ℕ
side_word Writing = 1
side_word Reading = 2

-- the word of who has an end; no host end is there
abbrev pub owner_word : Owner → ℕ
owner_word (Held guest handle) = 1
owner_word Loose = 2
owner_word Gone = 3
owner_word (Host number) = 4

-- the guest that has an end, and 0 where none does
abbrev pub guest_word : Owner → ℕ
guest_word (Held guest handle) = guest
guest_word _ = 0

-- the handle under which a guest has an end, and 0 where none does
abbrev pub handle_word : Owner → ℕ
handle_word (Held guest handle) = handle
handle_word _ = 0

-- a handle of which no more is told than its kind
abbrev pub bare_handle : ℕ → ℕ → StrmHandle
bare_handle number kind = record {
  ty = 0;
  handle = number;
  kind = kind;
  side = 0;
  stream = 0;
  event = 3;
  other = 0;
  other_guest = 0;
  other_handle = 0;
}

-- the handle of an end
abbrev pub end_handle : ℕ → EndInfo → StrmHandle
end_handle number end = record {
  ty = type_word end.ty;
  handle = number;
  kind = 1;
  side = side_word end.side;
  stream = end.stream;
  event = event_word end.event;
  other = owner_word end.other;
  other_guest = guest_word end.other;
  other_handle = handle_word end.other;
}

-- a handle, with what is told of it
abbrev pub told_handle : ℕ → Handle → StrmHandle
told_handle number (handles.End end) = end_handle number end
told_handle number handles.WaitableSet = bare_handle number 2
told_handle number handles.ErrorContext = bare_handle number 3
told_handle number handles.Other = bare_handle number 4

-- the same of an answer; a refusal leaves what was there
abbrev pub answer_handle : ℕ → Result Handle Refusal → StrmHandle → StrmHandle
answer_handle number (Ok told) old = told_handle number told
answer_handle number (Err refusal) old = old

-- a handle, if there is one, with what is told of it
abbrev pub maybe_handle : Option (ℕ × Handle) → StrmHandle
maybe_handle (Some next) = told_handle next.0 next.1
maybe_handle None = bare_handle 0 0

-- the same of an answer; a refusal leaves what was there
abbrev pub answer_next : Result (Option (ℕ × Handle)) Refusal → StrmHandle → StrmHandle
answer_next (Ok next) old = maybe_handle next
answer_next (Err refusal) old = old

-- the number that is answered; a refusal leaves what was there
abbrev pub answer_count : Result ℕ Refusal → ℕ → ℕ
answer_count (Ok count) old = count
answer_count (Err refusal) old = old
