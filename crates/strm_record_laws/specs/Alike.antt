-- Worlds that a run does not tell apart. Ours.
use Rattle.std.specs.Prelude.{◌≡◌, map, false, None}
use Rattle.strm_host_machine.specs.Ends.{Writer, Reader}
use Rattle.strm_host_machine.specs.World.{World}
use Rattle.strm_host_machine.specs.HostPlays.{HostPlayed, Ends, Halts, Hangs}

-- a host writer without what no step looks at: how many records it made, whether it was closed or is gone, and
-- what it heard
abbrev pub bare_writer : Writer → Writer
bare_writer writer = record writer { spoken = 0; closed = false; ended = false; heard = None }

-- a host reader without it, and without what it took
abbrev pub bare_reader : Reader → Reader
bare_reader reader = record reader { holds = None; spoken = 0; closed = false; heard = None }

-- two worlds with the same state, and with host ends of the same types that hold the same items and have the
-- same records to come
pub record AreAlike (a b : World) : Type 0 where
  pub state : a.state ≡ b.state
  pub writers : map bare_writer a.writers ≡ map bare_writer b.writers
  pub readers : map bare_reader a.readers ≡ map bare_reader b.readers

-- two runs come out alike
abbrev pub ComeOutAlike : HostPlayed → HostPlayed → Type 0
ComeOutAlike (Ends told a) (Ends told' b) = (told ≡ told') × AreAlike a b
ComeOutAlike (Halts told stop writers readers) (Halts told' stop' writers' readers') =
    (told ≡ told') × (stop ≡ stop')
    × (map bare_writer writers ≡ map bare_writer writers')
    × (map bare_reader readers ≡ map bare_reader readers')
ComeOutAlike (Hangs told) (Hangs told') = told ≡ told'
ComeOutAlike _ _ = ⊥
