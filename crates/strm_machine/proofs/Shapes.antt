-- What a step does by its shape: the few ways in which steps change a state, and what is known of each.
use Rattle.std.proofs.Common.{◌≡◌, ℕ, ◌<◌, true, false, List, [], length, set, Option, Some, None}
use Rattle.strm_machine.specs.Words.{Guest, kind_of, ReturnCode, TransmitIndex, Handles, Entry, removed, Sets, State, guest_in, sets_in, with_handles, with_table, end_named, HoldsSets, stream_at, is_end, end_of, with_end, Operated, named, stream_named, has_ended, Reaction, goes, operates, sizes_of, IsSound, IsPlaced, StreamIsPlaced, accepted, NamedEnd, Operate, Act, Make, OnEnd, Reply, Side, Operation, End, Stream, Owner, Held, is_held, is_loose, with_owner}
use Rattle.strm_handles.specs.Handles.{handle_limit, next_index, inserted}
use Rattle.strm_handles.specs.Lookups.{end_rep_of}
use Rattle.strm_machine.specs.Meetings.{begun}
use Rattle.strm_machine.specs.Making.{end_entry}
use Rattle.strm_waitable_sets.specs.Sets.{handle_left}
use Rattle.strm_memory.specs.Bytes.{IsBytes}
use Rattle.strm_error_contexts.specs.Contexts.{Contexts}
use Rattle.strm_machine.specs.State.{is_host, with_bytes}
use Rattle.strm_machine.specs.Soundness.{type_of, types_of, AreNamed, HoldsContexts}
use Rattle.strm_machine.specs.Operating.{operate}
use Rattle.strm_machine.specs.Tests.{items_asked}
use Rattle.strm_machine.specs.Refusals.{refusal}
use Rattle.strm_machine.specs.Reactions.{makes}
use Rattle.strm_machine.specs.Moments.{code_told, PutsBytes}
use Rattle.strm_machine.specs.Untouched.{put_by}
use Rattle.strm_machine.specs.declared.acts.Making.TheVariants as makings
use Rattle.strm_machine.proofs.RefusalLemmas.{GuestFits, BytesFit, PairFits}
use Rattle.strm_machine.proofs.NamedEndLemmas.{IsFound, NamesEnd}
use Rattle.strm_machine.proofs.EndingLemmas.{Becomes}
use Rattle.strm_machine.proofs.Ways.{Way}

-- ## A read or write

abbrev pub operating : Side → NamedEnd → ℕ → ℕ → Act
operating side end address count = OnEnd side end (Operate address count)

abbrev pub stream_on : State → NamedEnd → Stream
stream_on state end = stream_at state (stream_named (named state end))

abbrev pub begun_on : NamedEnd → ℕ → ℕ → Operation
begun_on end address count = begun end.guest address (items_asked end.ty count)

abbrev pub turn_on : State → Side → NamedEnd → ℕ → ℕ → Operated
turn_on state side end address count = operate side state.guests (stream_on state end) (begun_on end address count)

-- where nothing refuses it
pub record Operates (state : State) (side : Side) (end : NamedEnd) (address count : ℕ) : Type 0 where
  pub found : IsFound state (operating side end address count) end.guest end.handle (stream_named (named state end)) side
  pub idle : (end_of side (stream_on state end)).operation ≡ None
  pub unended : has_ended side (kind_of end.ty) (stream_on state end) ≡ false
  pub kind : (stream_on state end).kind ≡ kind_of end.ty
  pub placed : IsPlaced (sizes_of state.guests) (stream_on state end).payload (begun_on end address count)
  pub streams : StreamIsPlaced (sizes_of state.guests) (stream_on state end)

-- ## An end that is told

-- an end of a stream becomes another of the same owner; guests stay
pub record Setting : Type 0 where
  pub stream : ℕ
  pub side : Side
  pub end : End

abbrev pub set_by : State → Setting → State
set_by state x = record state { streams = set state.streams x.stream (with_end x.side (stream_at state x.stream) x.end) }

-- it is the end that this act names; no call is accepted in it, and the reply tells what the end is told
pub record SetsEnd (state : State) (act : Act) (reply : Reply) (x : Setting) : Type 0 where
  pub made : x.stream < length state.streams
  pub named : NamesEnd state act reply x.stream x.side
  pub becomes : Becomes x.side (stream_at state x.stream) x.end (code_told reply)
  pub untaken : (report : Option ReturnCode) → accepted act reply report ≡ []

-- ## An end of another owner

-- an end of a stream gets another owner: the handle of a guest that is freed, if one is, and leaves its
-- set, and then the guest that gets one, if one does
pub record Owning : Type 0 where
  pub stream : ℕ
  pub side : Side
  pub ty : TransmitIndex
  pub owner : Owner
  pub freed : Option (ℕ × ℕ)
  pub taker : Option ℕ

abbrev pub guests_freed : List Guest → Option (ℕ × ℕ) → List Guest
guests_freed guests None = guests
guests_freed guests (Some h) = with_table guests h.0 (removed (guest_in guests h.0).handles h.1) (handle_left (sets_in guests h.0) h.1)

abbrev pub guests_given : List Guest → Entry → Option ℕ → List Guest
guests_given guests entry None = guests
guests_given guests entry (Some g) = with_handles guests g (inserted (guest_in guests g).handles entry)

abbrev pub guests_by : List Guest → Owning → List Guest
guests_by guests x = guests_given (guests_freed guests x.freed) (end_entry x.side x.ty x.stream) x.taker

abbrev pub owned_by : State → Owning → State
owned_by state x = record state {
  guests = guests_by state.guests x;
  streams = set state.streams x.stream (with_owner x.side (stream_at state x.stream) x.owner);
}

-- a handle that is freed named the end
pub record Frees (guests : List Guest) (s : ℕ) (side : Side) (g handle : ℕ) : Type 0 where
  pub there : g < length guests
  pub held : is_end s side (end_rep_of (guest_in guests g).handles handle) ≡ true

-- where none is, the end was loose
abbrev pub IsFreed : List Guest → ℕ → Side → Owner → Option (ℕ × ℕ) → Type 0
IsFreed guests s side owner None = is_loose owner ≡ true
IsFreed guests s side owner (Some h) = Frees guests s side h.0 h.1

-- the guest that gets the end, has it under its next handle
pub record Takes (guests : List Guest) (owner : Owner) (g : ℕ) : Type 0 where
  pub there : g < length guests
  pub small : next_index (guest_in guests g).handles < handle_limit
  pub owns : owner ≡ Held g (next_index (guest_in guests g).handles)

-- where none gets it, none has it
abbrev pub IsTaken : List Guest → Owner → Option ℕ → Type 0
IsTaken guests owner None = is_held owner ≡ false
IsTaken guests owner (Some g) = Takes guests owner g

-- the stream was made, of this type; nothing is told, and no host end gets the end. It has no operation
-- where it is to be loose
pub record Owns (state : State) (reply : Reply) (x : Owning) : Type 0 where
  pub made : x.stream < length state.streams
  pub typed : type_of (stream_at state x.stream) ≡ x.ty
  pub untold : code_told reply ≡ None
  pub freed : IsFreed state.guests x.stream x.side (end_of x.side (stream_at state x.stream)).owner x.freed
  pub taken : IsTaken (guests_freed state.guests x.freed) x.owner x.taker
  pub unhosted : is_host x.owner ≡ false
  pub idle : is_loose x.owner ≡ true → (end_of x.side (stream_at state x.stream)).operation ≡ None
  pub fresh : is_loose x.owner ≡ true → (stream_at state x.stream).passed ≡ false

-- ## A table with its sets, and error contexts

-- one guest's table and sets are others, and the error contexts
pub record Tabling : Type 0 where
  pub guest : ℕ
  pub handles : Handles
  pub sets : Sets
  pub contexts : Contexts

abbrev pub tabled_by : State → Tabling → State
tabled_by state x = record state { guests = with_table state.guests x.guest x.handles x.sets; contexts = x.contexts }

-- each handle names the end that it named, and nothing is told
pub record Tables (state : State) (reply : Reply) (x : Tabling) : Type 0 where
  pub there : x.guest < length state.guests
  pub ends : (handle s : ℕ) (side : Side) → is_end s side (end_rep_of x.handles handle) ≡ is_end s side (end_named state x.guest handle)
  pub named : AreNamed (types_of state.streams) x.handles
  pub holds : HoldsSets x.handles x.sets
  pub counts : HoldsContexts (with_table state.guests x.guest x.handles x.sets) x.contexts
  pub untold : code_told reply ≡ None

-- ## Bytes put into a memory

-- they are put where the step puts them, and are bytes; nothing is told
pub record Puts (state : State) (act : Act) (reply : Reply) (g address : ℕ) (bytes : List ℕ) : Type 0 where
  pub fits : BytesFit state g address (length bytes)
  pub where_ : put_by act reply ≡ record { place = record { guest = g; address = address }; size = length bytes }
  pub bytes_put : PutsBytes act → IsBytes bytes
  pub untold : code_told reply ≡ None

-- ## All shapes

pub data Shape (state : State) (act : Act) (r : Reaction) : Type 0 where
  ByTurn : (side : Side) (end : NamedEnd) (address count : ℕ) → act ≡ operating side end address count → r ≡ operates state side end address count → Operates state side end address count → Shape state act r
  BySetting : (reply : Reply) (x : Setting) → r ≡ goes reply (set_by state x) → SetsEnd state act reply x → Shape state act r
  ByOwner : (reply : Reply) (x : Owning) → r ≡ goes reply (owned_by state x) → Owns state reply x → Shape state act r
  ByTable : (reply : Reply) (x : Tabling) → r ≡ goes reply (tabled_by state x) → Tables state reply x → Shape state act r
  ByPair : (writer reader : ℕ) (ty : TransmitIndex) → act ≡ Make (makings.Between writer reader ty) → r ≡ makes state (makings.Between writer reader ty) → PairFits state writer reader ty → Shape state act r
  ByGuest : (size : ℕ) → act ≡ Make (makings.Guest size) → r ≡ makes state (makings.Guest size) → GuestFits state size → Shape state act r
  ByPut : (reply : Reply) (g address : ℕ) (bytes : List ℕ) → r ≡ goes reply (with_bytes state g address bytes) → Puts state act reply g address bytes → Shape state act r
  ByRest : (reply : Reply) → r ≡ goes reply state → code_told reply ≡ None → Shape state act r

-- ## What is known of a step

-- how it changes the streams, whatever the state; and its shape, where the state is sound and nothing refuses it
pub record Known (state : State) (act : Act) (r : Reaction) : Type 0 where
  pub way : Way state act r
  pub shape : IsSound state → refusal state act ≡ None → Shape state act r
