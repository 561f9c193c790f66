-- Memories that an engine lends: what is done to them is no step of the machine, but a call between steps.
-- WebAssembly, `memory.grow`; wasmtime, `Memory::grow`, behind which `VMMemoryDefinition::base` may be
-- another. That a guest may be made over such a memory is ours.
use Rattle.std.specs.Prelude.{◌≡◌, ℕ, ◌+◌, ◌<◌, true, nat_le, if◌then◌else◌, List, [], ◌∷◌, ◌++◌, length, Option, Some, None}
use Rattle.std.specs.Ptr.{Ptr}
use Rattle.strm_handles.specs.Handles.{no_handles}
use Rattle.strm_waitable_sets.specs.Sets.{no_sets}
use Rattle.strm_machine.specs.State.{Guest, State, memory_in, with_memory, size_limit}
use Rattle.strm_memory.specs.Linear.{lent_at}
use Rattle.strm_machine.specs.Bases.{is_lent_in, with_base_in}
use Rattle.strm_machine.specs.Tests.{are_guests_full}
use Rattle.strm_machine.specs.Refusals.{Reason, where_, first_of}
use Rattle.strm_machine.specs.Reactions.{Reaction, goes}
use Rattle.strm_machine.specs.declared.replies.Reply.TheVariants as replies
use Rattle.strm_codes.specs.declared.refusals.Refusal.{Refusal}
use Rattle.strm_codes.specs.declared.refusals.Refusal.TheVariants as refusals

-- a guest whose memory is these bytes, which an engine lent, and which lie there
abbrev pub guest_at : List ℕ → Ptr → Guest
guest_at bytes at = record { memory = bytes; base = Some (lent_at at); handles = no_handles; sets = no_sets }

-- the state with such a guest more
abbrev pub with_guest_at : State → List ℕ → Ptr → State
with_guest_at state bytes at = record state { guests = state.guests ++ guest_at bytes at ∷ [] }

-- why no guest is made over so many bytes: as of a memory of the store's own, but that each has a limit of
-- its own, and there is none on all of them together
abbrev pub guest_at_reasons : State → ℕ → List Reason
guest_at_reasons state size =
    where_ (nat_le size_limit size) refusals.MemoryTooBig
    ∷ where_ (are_guests_full state) refusals.Full
    ∷ []

-- a refusal, or else a guest more
abbrev pub adds_unless : State → List ℕ → Ptr → Option Refusal → Reaction
adds_unless state bytes at (Some r) = goes (replies.Refused r) state
adds_unless state bytes at None = goes (replies.Number (length state.guests)) (with_guest_at state bytes at)

-- a guest that is made over these bytes, which lie there
unfoldable pub adds_guest_at : State → List ℕ → Ptr → Reaction
adds_guest_at state bytes at =
    if state.trapped
    then goes replies.StoreTrapped state
    else adds_unless state bytes at (first_of (guest_at_reasons state (length bytes)))

-- the state with more bytes behind the end of a guest's memory
abbrev pub grown : State → ℕ → List ℕ → State
grown state g more = record state { guests = with_memory state.guests g (memory_in state.guests g ++ more) }

-- the same, where the memory lies there from then on
abbrev pub moved_to : State → ℕ → List ℕ → Ptr → State
moved_to state g more at = with_base_in (grown state g more) g at

-- a guest's memory may grow by these bytes: an engine lent it
pub record MayGrow (state : State) (g : ℕ) (more : List ℕ) : Type 0 where
  pub there : g < length state.guests
  pub lent : is_lent_in state.guests g ≡ true
  pub small : length (memory_in state.guests g) + length more < size_limit
