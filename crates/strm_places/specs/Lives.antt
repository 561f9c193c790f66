-- A guest that ends, and one that begins under the number of one that ended. Ours: neither the Canonical ABI nor
-- wasmtime ends one instance of a store that goes on. What is done to its handles is theirs:
-- `canon stream.cancel-{read,write}`, `canon stream.drop-{readable,writable}` and those of futures,
-- `canon waitable-set.drop`, and `canon error-context.drop`. It is no step, but a call between steps.
use Rattle.std.specs.Prelude.{◌≡◌, ◌≢◌, ℕ, zero, suc, ◌+◌, ◌==◌, Bool, true, false, ◌||◌, nat_lt, nat_le, if◌then◌else◌, List, [], ◌∷◌, replicate, slice_set, length, All, Option, Some, None, Ok, Err, is_ok}
use Rattle.std.specs.Ptr.{Ptr}
use Rattle.strm_codes.specs.declared.refusals.Refusal.{Refusal}
use Rattle.strm_codes.specs.declared.refusals.Refusal.TheVariants as refusals
use Rattle.strm_handles.specs.Handles.{no_handles, entry_at, occupied}
use Rattle.strm_handles.specs.declared.entries.Entry.{Entry}
use Rattle.strm_handles.specs.declared.entries.Entry.TheVariants as entries
use Rattle.strm_handles.specs.declared.entries.TransmitLocalState.{TransmitLocalState}
use Rattle.strm_waitable_sets.specs.Sets.{no_sets}
use Rattle.strm_machine.specs.State.{State, Guest, no_guest, guest_in, memory_in, stream_at, size_limit}
use Rattle.strm_machine.specs.Bases.{is_lent_in}
use Rattle.strm_machine.specs.Growth.{guest_at}
use Rattle.strm_machine.specs.Endings.{dropped}
use Rattle.strm_machine.specs.ErrorContexts.{without_context_handle}
use Rattle.strm_machine.specs.Moves.{without_handle}
use Rattle.strm_machine.specs.Plays.{play, Ends}
use Rattle.strm_machine.specs.Reactions.{Reaction, goes, cancels, with_stream_at}
use Rattle.strm_machine.specs.Refusals.{Reason, where_, first_of}
use Rattle.strm_machine.specs.Sides.{end_of}
use Rattle.strm_machine.specs.Tests.{Name, end_named, side_of, is_busy, owes_value, is_memory_too_big}
use Rattle.strm_machine.specs.WaitableSets.{without_set_named}
use Rattle.strm_machine.specs.declared.replies.Reply.{Reply}
use Rattle.strm_machine.specs.declared.replies.Reply.TheVariants as replies
use Rattle.strm_machine.specs.declared.steps.Step.{Step}
use Rattle.strm_machine.specs.declared.steps.Step.TheVariants as steps
use Rattle.strm_machine.specs.declared.streams.Operation.{Operation}
use Rattle.strm_machine.specs.declared.streams.Side.{Side}

-- ITS ENDS

-- the operation of the end on a side of stream s is cancelled, if it has one
abbrev pub with_none_pending : State → ℕ → Side → State
with_none_pending state s side =
    if is_busy side (stream_at state s) then (cancels state s side).state else state

-- the end on a side of stream s, which a guest has under a handle, is given up: its operation is cancelled, so
-- that what moved stays moved, and then it is dropped, also where a future's value was still owed
abbrev pub without_end : State → ℕ → ℕ → ℕ → Side → State
without_end state g handle s side =
    let idle = with_none_pending state s side in
    with_stream_at (without_handle idle g handle) s (dropped side (stream_at idle s))

-- what a number of a guest's table names, if that is an end
abbrev pub end_given_up : State → ℕ → ℕ → Name → State
end_given_up state g handle (Ok answer) = without_end state g handle answer.0 (side_of answer.1)
end_given_up state g handle (Err error) = state

-- the ends that the first so many numbers of a guest's table name, in rising order
unfoldable pub ends_given_up : State → ℕ → ℕ → State
ends_given_up state g zero = state
ends_given_up state g (suc n) =
    let before = ends_given_up state g n in
    end_given_up before g (n + 1) (end_named before g (n + 1))

-- ITS SETS AND ERROR CONTEXTS

-- what a number of a guest's table stands for, if that is a set or an error context
abbrev pub rest_given_up : State → ℕ → ℕ → Option Entry → State
rest_given_up state g handle (Some (entries.WaitableSet rep)) = without_set_named state g handle
rest_given_up state g handle (Some (entries.ErrorContext rep)) = without_context_handle state g handle
rest_given_up state g handle _ = state

-- those of the first so many numbers
unfoldable pub all_given_up : State → ℕ → ℕ → State
all_given_up state g zero = state
all_given_up state g (suc n) =
    let before = all_given_up state g n in
    rest_given_up before g (n + 1) (entry_at (guest_in before.guests g).handles (n + 1))

-- THE GUEST

-- the numbers that a guest's table gave
abbrev pub numbers_given : State → ℕ → ℕ
numbers_given state g = length (guest_in state.guests g).handles.entries

-- what its handles are of is given up: its ends first, by rising handle, then its sets and error contexts
abbrev pub handles_given_up : State → ℕ → State
handles_given_up state g =
    let count = numbers_given state g in
    all_given_up (ends_given_up state g count) g count

-- a guest without memory; its table and its sets are new where it has no handle, so that its numbers begin with
-- 1 again. A resource or a subtask, of which no step makes one, would stay
abbrev pub left_over : Guest → Guest
left_over guest =
    if occupied guest.handles == 0 then no_guest else record guest { memory = []; base = None }

-- the state with another guest of a number
abbrev pub with_guest_in : State → ℕ → Guest → State
with_guest_in state g guest = record state { guests = slice_set state.guests g guest }

-- a guest's memory is given up: nobody reads or writes there any more
abbrev pub emptied : State → ℕ → State
emptied state g = with_guest_in state g (left_over (guest_in state.guests g))

-- a guest ends: what its handles are of is given up, and then its memory
abbrev pub ended : State → ℕ → State
ended state g = emptied (handles_given_up state g) g

-- a guest has no end
abbrev pub HasNoEnd : State → ℕ → Type 0
HasNoEnd state g = (handle : ℕ) → is_ok (end_named state g handle) ≡ false

-- no operation lies in its memory, which may be given up then
abbrev pub HasNoOperation : State → ℕ → Type 0
HasNoOperation state g = (s : ℕ) (side : Side) (operation : Operation) →
    (end_of side (stream_at state s)).operation ≡ Some operation → operation.guest ≢ g

-- ONE BEGINS

-- a guest has bytes, handles, or a memory that an engine lent
abbrev pub is_in_use : State → ℕ → Bool
is_in_use state g =
    nat_lt 0 (length (memory_in state.guests g)) || nat_lt 0 (occupied (guest_in state.guests g).handles)
    || is_lent_in state.guests g

-- a guest with a memory of so many zero bytes, and nothing else
abbrev pub guest_with : ℕ → Guest
guest_with size = record { memory = replicate size 0; base = None; handles = no_handles; sets = no_sets }

-- why none begins so: its bytes and those that are the store's own would pass their limit
abbrev pub begin_reasons : State → ℕ → List Reason
begin_reasons state size = where_ (is_memory_too_big state size) refusals.MemoryTooBig ∷ []

-- why none begins over so many bytes that an engine lends
abbrev pub begin_at_reasons : ℕ → List Reason
begin_at_reasons size = where_ (nat_le size_limit size) refusals.MemoryTooBig ∷ []

-- a refusal, or else this guest under the number
abbrev pub begins_unless : State → ℕ → Guest → Option Refusal → Reaction
begins_unless state g guest (Some r) = goes (replies.Refused r) state
begins_unless state g guest None = goes replies.Done (with_guest_in state g guest)

-- the same of a store that may be trapped, which answers nothing else any more
unfoldable pub begins_as : State → ℕ → Guest → List Reason → Reaction
begins_as state g guest reasons =
    if state.trapped
    then goes replies.StoreTrapped state
    else begins_unless state g guest (first_of reasons)

-- a guest that has nothing begins with a memory of so many zero bytes
abbrev pub begins : State → ℕ → ℕ → Reaction
begins state g size = begins_as state g (guest_with size) (begin_reasons state size)

-- the same over these bytes, which an engine lends, and which lie there
abbrev pub begins_at : State → ℕ → List ℕ → Ptr → Reaction
begins_at state g bytes at = begins_as state g (guest_at bytes at) (begin_at_reasons (length bytes))

-- WHERE IT IS A PLAY

-- no end of a guest owes a future's value: each write end of a future that it has was told that nobody reads it, or
-- the value passed
abbrev pub OwesNone : State → ℕ → Type 0
OwesNone state g = (handle : ℕ) (answer : ℕ × TransmitLocalState) → end_named state g handle ≡ Ok answer
    → owes_value (side_of answer.1) (stream_at state answer.0).kind (stream_at state answer.0) ≡ false

-- a step that gives up what a handle of a guest is of
abbrev pub GivesUp : ℕ → Step → Type 0
GivesUp g (steps.CancelWrite guest ty handle) = guest ≡ g
GivesUp g (steps.CancelRead guest ty handle) = guest ≡ g
GivesUp g (steps.DropWrite guest ty handle) = guest ≡ g
GivesUp g (steps.DropRead guest ty handle) = guest ≡ g
GivesUp g (steps.SetDrop guest set) = guest ≡ g
GivesUp g (steps.ErrDrop guest handle) = guest ≡ g
GivesUp g step = ⊥

-- a play of such steps leads from one state to another
pub record IsGivenUp (g : ℕ) (old new : State) : Type 0 where
  pub steps : List Step
  pub replies : List Reply
  pub each : All (GivesUp g) steps
  pub played : play [] old steps ≡ Ends replies new

-- a number stands for nothing that no step makes: no resource, and no subtask
abbrev pub is_made_by_steps : Option Entry → Bool
is_made_by_steps (Some (entries.ResourceOwn resource lends)) = false
is_made_by_steps (Some (entries.ResourceBorrow resource scope)) = false
is_made_by_steps (Some (entries.Subtask rep is_host)) = false
is_made_by_steps _ = true

-- the same of all numbers of a guest's table
abbrev pub HasOnlyMade : State → ℕ → Type 0
HasOnlyMade state g =
    (handle : ℕ) → is_made_by_steps (entry_at (guest_in state.guests g).handles handle) ≡ true
