-- What a destination lends on. Ours.
use mir.Syntax.{named}
use Rattle.std.specs.Prelude.{ℕ, List, [], Result}
use Rattle.std.specs.Borrow.{Lends, MutBor, Fml, RattleType, Array, u8, follows_if, name_if_ok}
use Rattle.strm_codes.specs.declared.counts.OutOfMemory.{OutOfMemory}
use Rattle.strm_buffers.specs.Lending.{with_unmarked}
use Rattle.strm_host.specs.declared.destinations.Destination.{Destination}
use Rattle.strm_host.specs.declared.destinations.Produced.{Produced}
use Rattle.strm_host.specs.declared.direct.DirectDestination.{DirectDestination}
use Rattle.strm_host.specs.contracts.destinations.Destination.{the_row}
use Rattle.strm_host.specs.contracts.destinations.Produced.{the_row as produced_row}
use Rattle.strm_host.specs.contracts.direct.DirectDestination.{the_row as direct_row}

module _ (T B : RattleType) where
  -- the same destination, left with this behind it
  abbrev pub with_produced : Destination T.Denot B.Denot → Produced B.Denot → Destination T.Denot B.Denot
  with_produced d w = record d { produced = record d.produced { now = w } }

  -- the destination ends with what was last written behind r
  abbrev pub LendsDestination : MutBor (Destination T.Denot B.Denot) → MutBor (Produced B.Denot) → Fml
  LendsDestination d r = Lends (the_row (record { mir = named 0; lft = [] }) T B) (produced_row B) d r (with_produced d.now)

module _ (B : RattleType) where
  -- what a destination lent ends as r left it last; where memory had run out, as it was
  abbrev pub LendsDirect : MutBor (Produced B.Denot) → Result (DirectDestination B.Denot) OutOfMemory → Fml
  LendsDirect produced r =
      follows_if (produced_row B) (produced_row B) produced.ghost_name (name_if_ok (λ d. d.produced.ghost_name) r) (λ w. w) produced.now

  -- the same, with these bytes written over the unmarked ones
  abbrev pub with_bytes : DirectDestination B.Denot → List ℕ → DirectDestination B.Denot
  with_bytes d bytes =
      record d { produced = record d.produced { now = record d.produced.now { window = with_unmarked d.produced.now.window bytes } } }

  -- the window ends with what was last written behind r in place of its unmarked bytes
  abbrev pub LendsBytes : MutBor (DirectDestination B.Denot) → MutBor (List ℕ) → Fml
  LendsBytes d r = Lends (direct_row (record { mir = named 0; lft = [] }) B) (Array u8 0) d r (with_bytes d.now)
