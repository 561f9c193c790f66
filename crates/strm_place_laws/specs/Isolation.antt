-- Streams of a store among guests are isolated since they were made: in the words of `Isolation.antt` of
-- `strm_host_laws`, where no host end is there. Ours.
use Rattle.std.specs.Prelude.{◌≡◌, ℕ, []}
use Rattle.strm_machine.specs.State.{State, stream_at}
use Rattle.strm_machine.specs.Moments.{Moment}
use Rattle.strm_host_machine.specs.World.{World}
use Rattle.strm_host_laws.specs.HostMoments.{Acts, HostMoment}
use Rattle.strm_host_laws.specs.StreamEvents.{events_in}

-- a state among guests, as a world with no host end
abbrev pub without_hosts : State → World
without_hosts state = record { state = state; writers = []; readers = [] }

-- a moment among guests, as one of a run with no host end
abbrev pub among_guests : Moment → HostMoment
among_guests m = record {
  part = Acts m.act;
  before = without_hosts m.before;
  reply = m.reply;
  after = without_hosts m.after;
}

-- a moment that is no event of stream s leaves it whole
abbrev pub LeavesIt : ℕ → Moment → Type 0
LeavesIt s m = events_in s (among_guests m) ≡ [] → stream_at m.after s ≡ stream_at m.before s
