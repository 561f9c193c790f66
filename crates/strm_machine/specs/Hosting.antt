-- What holds of every state that can be reached: host ends and streams agree. Ours.
use Rattle.std.specs.Prelude.{◌≡◌, ℕ, Bool, false, List, [], length, slice_index_or, None}
use Rattle.strm_machine.specs.State.{State, host_limit, no_producer, no_consumer, producer_at, kept_at, stream_at, is_host}
use Rattle.strm_machine.specs.Sides.{end_of}
use Rattle.strm_machine.specs.declared.streams.Duty.{Duty}
use Rattle.strm_machine.specs.declared.streams.Duty.TheVariants.{Serves}
use Rattle.strm_machine.specs.declared.streams.Owner.TheVariants.{Host}
use Rattle.strm_machine.specs.declared.streams.Consumer.{Consumer}
use Rattle.strm_machine.specs.declared.streams.Producer.{Producer}
use Rattle.strm_machine.specs.declared.streams.Side.{Side}
use Rattle.strm_machine.specs.declared.streams.Side.TheVariants.{Writing, Reading}

-- what the host end of a number does, by what is kept of all: on the writing side a host writer, on the
-- reading side a host reader
abbrev pub duty_among : Side → List Producer → List Consumer → ℕ → Duty
duty_among Writing producers consumers n = (slice_index_or producers n no_producer).duty
duty_among Reading producers consumers n = (slice_index_or consumers n no_consumer).duty

-- the same in a state
abbrev pub duty_of : Side → State → ℕ → Duty
duty_of side state n = duty_among side state.producers state.consumers n

-- host end n has the end on its side of the one stream that it serves, and of no other
pub record ServesOne (state : State) (side : Side) (n s : ℕ) : Type 0 where
  pub serves : (end_of side (stream_at state s)).owner ≡ Host n → duty_of side state n ≡ Serves s
  pub owns : duty_of side state n ≡ Serves s → (end_of side (stream_at state s)).owner ≡ Host n
  pub idle : (end_of side (stream_at state s)).owner ≡ Host n → (end_of side (stream_at state s)).operation ≡ None

-- a host writer with this duty serves a stream that a host reader reads
abbrev pub is_piped : State → Duty → Bool
is_piped state (Serves s) = is_host (stream_at state s).reader.owner
is_piped state duty = false

-- only then are items of host writer n kept
abbrev pub KeepsForPipe : State → ℕ → Type 0
KeepsForPipe state n = is_piped state (producer_at state n).duty ≡ false → kept_at state n ≡ []

-- the same of all host ends
pub record HostsHold (state : State) : Type 0 where
  pub all : length state.producers ≡ host_limit
  pub all_kept : length state.kept ≡ host_limit
  pub all_readers : length state.consumers ≡ host_limit
  pub serve : (side : Side) (n s : ℕ) → ServesOne state side n s
  pub keeps : (n : ℕ) → KeepsForPipe state n
