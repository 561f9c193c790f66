-- A store with ready host ends of its own: the machine's state, and what each host writer and host reader is. Ours.
use Rattle.std.specs.Prelude.{◌≡◌, ℕ, List, map, slice_index_or, slice_set, Option, Some, None}
use Rattle.strm_codes.specs.declared.codes.TransmitKind.TheVariants.{Stream}
use Rattle.strm_codes.specs.declared.payloads.Payload.TheVariants.{Nothing}
use Rattle.strm_buffers.specs.Tells.{Tells}
use Rattle.strm_machine.specs.State.{State}
use Rattle.strm_host_machine.specs.Does.{Fits}
use Rattle.strm_ready_ends.specs.SendQueues.{SendQueue, ready_tells, unfed, forgotten}
use Rattle.strm_ready_ends.specs.ReceiveQueues.{ReceiveQueue, ready_reader_tells, ungranted, reader_forgotten}

-- the machine's state, and the host writers and the host readers by their numbers
pub record HostState : Type 0 where
  pub state : State
  pub writers : List SendQueue
  pub readers : List ReceiveQueue

-- these
abbrev pub host_state : State → List SendQueue → List ReceiveQueue → HostState
host_state state writers readers = record { state = state; writers = writers; readers = readers }

-- what ready host ends tell
abbrev pub ready_tell : List SendQueue → List ReceiveQueue → Tells
ready_tell writers readers = record {
  writers = map ready_tells writers;
  readers = map ready_reader_tells readers;
}

-- what those of a store tell
abbrev pub tells_in : HostState → Tells
tells_in host = ready_tell host.writers host.readers

-- the host writer of a number; past the last, one that was fed nothing
abbrev pub queue_in : List SendQueue → ℕ → SendQueue
queue_in writers n = slice_index_or writers n (unfed Stream Nothing)

-- the host reader of a number
abbrev pub reader_queue_in : List ReceiveQueue → ℕ → ReceiveQueue
reader_queue_in readers r = slice_index_or readers r (ungranted Stream Nothing)

-- the host writers, with the records of one of them forgotten, if it is named
abbrev pub with_writer_forgotten : Option ℕ → List SendQueue → List SendQueue
with_writer_forgotten None writers = writers
with_writer_forgotten (Some n) writers = slice_set writers n (forgotten (queue_in writers n))

-- the same of host readers
abbrev pub with_reader_forgotten : Option ℕ → List ReceiveQueue → List ReceiveQueue
with_reader_forgotten None readers = readers
with_reader_forgotten (Some r) readers = slice_set readers r (reader_forgotten (reader_queue_in readers r))

-- host writer n of a store
abbrev pub writer_of : HostState → ℕ → SendQueue
writer_of host n = queue_in host.writers n

-- host reader r of a store
abbrev pub reader_of : HostState → ℕ → ReceiveQueue
reader_of host r = reader_queue_in host.readers r

-- the machine's state is this one now, and host ends are as they were
abbrev pub with_state : HostState → State → HostState
with_state host state = record host { state = state }

-- host writer n is this one now, and nothing else has changed
abbrev pub with_writer : HostState → ℕ → SendQueue → HostState
with_writer host n queue = record host { writers = slice_set host.writers n queue }

-- the same of host reader r
abbrev pub with_reader : HostState → ℕ → ReceiveQueue → HostState
with_reader host r queue = record host { readers = slice_set host.readers r queue }

-- the state is as it was, and so is all that host ends tell
pub record TellsStay (old new : HostState) : Type 0 where
  pub state : new.state ≡ old.state
  pub ends : tells_in new ≡ tells_in old

-- THE STATES OF SUCH A STORE

-- each host end that is in use is there, with its stream's kind and payload
pub record IsAmongReady (host : HostState) : Type 0 where
  pub fits : Fits host.state (tells_in host)
