-- A host writer that is taken back from its stream before anything of it passed, and what a store has to
-- know for it without being given its host ends.
-- wasmtime, futures_and_streams.rs, `StreamReader::try_into`.
use Rattle.std.specs.Prelude.{◌≡◌, ℕ, Bool, false, ◌||◌, if◌then◌else◌, slice_set, Option, Some, None}
use Rattle.strm_buffers.specs.Tells.{Tells, told_by}
use Rattle.strm_machine.specs.State.{State, producer_at, stream_at}
use Rattle.strm_machine.specs.declared.streams.Duty.TheVariants.{Serves, Ended}
use Rattle.strm_machine.specs.declared.streams.Owner.{Owner}
use Rattle.strm_machine.specs.declared.streams.Owner.TheVariants.{Loose, Host}
use Rattle.strm_host_machine.specs.World.{World, writer_at}
use Rattle.strm_host_machine.specs.Attaching.{has_items, without_ends}

-- WHAT IS HELD

-- of each host writer in use a store knows whether it holds items
abbrev pub KnowsHeld : State → Tells → Type 0
KnowsHeld state tells =
    state.trapped ≡ false → (n s : ℕ) → (producer_at state n).duty ≡ Serves s →
    (producer_at state n).holding ≡ has_items (told_by tells n).holds

-- the same in a world
abbrev pub KnowsHeldIn : World → Type 0
KnowsHeldIn world =
    (n s : ℕ) → (producer_at world.state n).duty ≡ Serves s →
    (producer_at world.state n).holding ≡ has_items (writer_at world n).holds

-- THE RELEASE

-- host writer n, unless it has no more to come or holds items
abbrev pub unless_spent : State → (ℕ → Bool) → ℕ → Option ℕ
unless_spent state holding n = if (producer_at state n).over || holding n then None else Some n

-- by the owners of a stream's write end and of its read end, which is loose
abbrev pub released_by : State → (ℕ → Bool) → Owner → Owner → Option ℕ
released_by state holding (Host n) Loose = unless_spent state holding n
released_by state holding _ _ = None

-- the host writer that is released with the read end of stream s, where host writers hold items or none
abbrev pub released_where : State → (ℕ → Bool) → ℕ → Option ℕ
released_where state holding s =
    let stream = stream_at state s in
    if state.trapped then None else released_by state holding stream.writer.owner stream.reader.owner

-- the one by what host writers tell
abbrev pub released_among : State → Tells → ℕ → Option ℕ
released_among state tells s = released_where state (λ n. has_items (told_by tells n).holds) s

-- the one by what a store knows of them
abbrev pub released : State → ℕ → Option ℕ
released state s = released_where state (λ n. (producer_at state n).holding) s

-- the state once host writer n was released from stream s, which is removed: nothing is closed
abbrev pub released_in : State → ℕ → Option ℕ → State
released_in state s None = state
released_in state s (Some n) = record state {
  streams = slice_set state.streams s (without_ends (stream_at state s));
  producers = slice_set state.producers n (record (producer_at state n) { duty = Ended });
}

-- the state after it
abbrev pub after_release : State → ℕ → State
after_release state s = released_in state s (released state s)
