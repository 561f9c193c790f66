-- The state of the machine: guests, each with a memory, a handle table and waitable sets, the streams
-- between them, the host ends that it knows, and error contexts.
-- Component Model, "Stream State", "Waitable State" and `ErrorContext`; wasmtime,
-- futures_and_streams.rs.
use Rattle.std.specs.Prelude.{ℕ, ℤ, ◌+◌, ◌*◌, Bool, false, true, ◌&&◌, not, List, [], length, replicate, slice_index_or, slice_set, sum_by, count_by, Option, None}
use Rattle.strm_codes.specs.declared.codes.TransmitKind.TheVariants.{Stream as AStream}
use Rattle.strm_codes.specs.declared.payloads.Payload.TheVariants.{Nothing}
use Rattle.strm_handles.specs.Handles.{Handles, no_handles, live_of}
use Rattle.strm_memory.specs.Bytes.{put_at}
use Rattle.strm_memory.specs.Linear.{Base, own_part}
use Rattle.strm_waitable_sets.specs.Sets.{Sets, no_sets}
use Rattle.strm_error_contexts.specs.Contexts.{Contexts, no_contexts, len as contexts_there}
use Rattle.strm_machine.specs.declared.limits.Limits.{Limits}
use Rattle.strm_machine.specs.declared.streams.Owner.{Owner}
use Rattle.strm_machine.specs.declared.streams.Owner.TheVariants.{Held, Loose, Host, Gone}
use Rattle.strm_machine.specs.declared.streams.Duty.TheVariants.{Unused}
use Rattle.strm_machine.specs.declared.streams.Producer.{Producer}
use Rattle.strm_machine.specs.declared.streams.Consumer.{Consumer}
use Rattle.strm_machine.specs.declared.streams.End.{End}
use Rattle.strm_machine.specs.declared.streams.Stream.{Stream}

-- a guest's bytes, what its handles stand for, and its waitable sets
pub record Guest : Type 0 where
  pub memory : List ℕ
  -- where the first of its bytes lies, once that was told, and whether an engine lent them, which no step
  -- changes. wasmtime, `VMMemoryDefinition::base`
  pub base : Option Base
  pub handles : Handles
  pub sets : Sets

-- guests, streams and error contexts by their numbers; a stream whose both ends are gone keeps its
-- place
pub record State : Type 0 where
  -- the name that the store was made with, which no step changes. Ours
  pub tag : ℕ
  pub limits : Limits
  pub guests : List Guest
  pub streams : List Stream
  -- of each host writer, by its number, what is kept of it. Ours: wasmtime keeps its producers in
  -- the streams
  pub producers : List Producer
  -- and its items that are kept: those that a host reader, which reads its stream, did not take yet
  pub kept : List (List (List ℤ))
  -- of each host reader, by its number, what is kept of it
  pub consumers : List Consumer
  pub contexts : Contexts
  pub trapped : Bool

-- the host writers, at most, and the host readers. Ours
abbrev pub host_limit : ℕ
host_limit = 64

-- a host writer that was never used
abbrev pub no_producer : Producer
no_producer = record { duty = Unused; over = false; holding = false }

-- a host reader that was never used
abbrev pub no_consumer : Consumer
no_consumer = record { duty = Unused; since = 0; resting = false }

-- no guest, no stream and no error context, under these limits
abbrev pub empty : ℕ → Limits → State
empty tag limits = record {
  tag = tag;
  limits = limits;
  guests = [];
  streams = [];
  producers = replicate host_limit no_producer;
  kept = replicate host_limit [];
  consumers = replicate host_limit no_consumer;
  contexts = no_contexts;
  trapped = false;
}

-- the bytes of all memories of the store's own together, at most. Ours
abbrev pub memory_limit : ℕ
memory_limit = 268435456

-- the bytes of one memory are fewer: the place behind each is an address. WebAssembly has so many at most
abbrev pub size_limit : ℕ
size_limit = 4294967296

-- the guests, at most. Ours
abbrev pub guest_limit : ℕ
guest_limit = 1048576

-- the streams ever made, at most: their numbers stay below 2^32 - 1. Ours
abbrev pub stream_limit : ℕ
stream_limit = 4294967295

-- what stands past the last guest
abbrev pub no_guest : Guest
no_guest = record { memory = []; base = None; handles = no_handles; sets = no_sets }

-- the guest of a number
abbrev pub guest_in : List Guest → ℕ → Guest
guest_in guests g = slice_index_or guests g no_guest

-- its bytes
abbrev pub memory_in : List Guest → ℕ → List ℕ
memory_in guests g = (guest_in guests g).memory

-- the guests with another memory for one of them
abbrev pub with_memory : List Guest → ℕ → List ℕ → List Guest
with_memory guests g memory = slice_set guests g (record (guest_in guests g) { memory = memory })

-- the guests with other handles for one of them
abbrev pub with_handles : List Guest → ℕ → Handles → List Guest
with_handles guests g handles = slice_set guests g (record (guest_in guests g) { handles = handles })

-- a guest's waitable sets
abbrev pub sets_in : List Guest → ℕ → Sets
sets_in guests g = (guest_in guests g).sets

-- the guests with other sets for one of them
abbrev pub with_sets : List Guest → ℕ → Sets → List Guest
with_sets guests g sets = slice_set guests g (record (guest_in guests g) { sets = sets })

-- the guests with other handles and sets for one of them
abbrev pub with_table : List Guest → ℕ → Handles → Sets → List Guest
with_table guests g handles sets =
    slice_set guests g (record (guest_in guests g) { handles = handles; sets = sets })

-- the end was dropped
abbrev pub is_gone : Owner → Bool
is_gone Gone = true
is_gone _ = false

-- a guest has the end
abbrev pub is_held : Owner → Bool
is_held (Held guest handle) = true
is_held _ = false

-- the end is in no guest yet, or was lifted out of one
abbrev pub is_loose : Owner → Bool
is_loose Loose = true
is_loose _ = false

-- a host end has the end
abbrev pub is_host : Owner → Bool
is_host (Host number) = true
is_host _ = false

-- an end that has this owner, was told nothing, and has no operation
abbrev pub idle_end : Owner → End
idle_end owner = record { owner = owner; told = false; operation = None }

-- what stands past the last stream
abbrev pub no_stream : Stream
no_stream = record {
  kind = AStream;
  payload = Nothing;
  passed = false;
  writer = idle_end Gone;
  reader = idle_end Gone;
  received = 0;
}

-- what is kept of the host writer of a number
abbrev pub producer_at : State → ℕ → Producer
producer_at state n = slice_index_or state.producers n no_producer

-- the items of it that are kept
abbrev pub kept_at : State → ℕ → List (List ℤ)
kept_at state n = slice_index_or state.kept n []

-- what is kept of the host reader of a number
abbrev pub consumer_at : State → ℕ → Consumer
consumer_at state r = slice_index_or state.consumers r no_consumer

-- the stream of a number
abbrev pub stream_at : State → ℕ → Stream
stream_at state s = slice_index_or state.streams s no_stream

-- an end is there
abbrev pub is_live : Stream → Bool
is_live stream = not (is_gone stream.writer.owner && is_gone stream.reader.owner)

-- live handles of all guests together
abbrev pub handles_in_use : State → ℕ
handles_in_use state = sum_by (λ g. live_of g.handles) state.guests

-- waitable sets of all guests together
abbrev pub sets_in_use : State → ℕ
sets_in_use state = sum_by (λ g. count_by (λ there. there) g.sets.there) state.guests

-- a stream takes three places until both ends are gone, a set and an error context one each. Ours:
-- wasmtime has tables of transmits, of sets and of error contexts
abbrev pub places_in_use : State → ℕ
places_in_use state =
    3 * count_by is_live state.streams + sets_in_use state + contexts_there state.contexts

-- the state with bytes put into a guest's memory, from an address on
abbrev pub with_bytes : State → ℕ → ℕ → List ℕ → State
with_bytes state g address bytes = record state {
  guests = with_memory state.guests g (put_at (memory_in state.guests g) address bytes);
}

-- the bytes of a guest's memory that the store has: none of one that an engine lent
abbrev pub own_size : Guest → ℕ
own_size g = own_part g.base (length g.memory)

-- those of all memories together
abbrev pub bytes_in_use : State → ℕ
bytes_in_use state = sum_by own_size state.guests
