-- What bounds how many streams there are: the handles of guests, and ends that are loose. Ours.
use Rattle.std.specs.Prelude.{◌≡◌, ℕ, Bool, false, ◌||◌, ◌==◌}
use Rattle.strm_machine.specs.State.{State, stream_at, is_loose, is_host}
use Rattle.strm_machine.specs.Sides.{end_of}
use Rattle.strm_machine.specs.declared.streams.Owner.{Owner}
use Rattle.strm_machine.specs.declared.streams.Owner.TheVariants.{Held}
use Rattle.strm_machine.specs.declared.streams.Side.{Side}
use Rattle.strm_machine.specs.declared.streams.Stream.{Stream}

-- no host end has an end of a stream
abbrev pub HasNoHost : State → Type 0
HasNoHost state = (s : ℕ) (side : Side) → is_host (end_of side (stream_at state s)).owner ≡ false

-- an end of a stream is loose
abbrev pub has_loose : Stream → Bool
has_loose stream = is_loose stream.writer.owner || is_loose stream.reader.owner

-- a guest has an end
abbrev pub is_held_by : ℕ → Owner → Bool
is_held_by g (Held guest handle) = guest == g
is_held_by g _ = false

-- a guest has an end of a stream
abbrev pub has_end_of : ℕ → Stream → Bool
has_end_of g stream = is_held_by g stream.writer.owner || is_held_by g stream.reader.owner
