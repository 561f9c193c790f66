-- The places of streams: a stream's number is its place in the store's list, and a place is free once both
-- ends of its stream are gone. wasmtime, `resource_table.rs`, `ResourceTable`, gives a freed row again; that room
-- for what is freed is kept from the making on is ours.
use Rattle.std.specs.Prelude.{◌≡◌, ℕ, ◌+◌, ◌-◌, ◌<◌, ◌≤◌, Bool, true, false, List, [], ◌∷◌, length, count_by, drop, slice_index_or, All, Option, Some, None}
use Rattle.strm_handles.specs.Handles.{AreApart}
use Rattle.strm_machine.specs.State.{is_live, no_stream}
use Rattle.strm_machine.specs.declared.streams.Stream.{Stream}

-- how many streams have an end left, the free places, the last freed first, and for how many of them there is
-- room
pub record Places : Type 0 where
  pub live : ℕ
  pub free : List ℕ
  pub room : ℕ

-- of no streams
abbrev pub no_places : Places
no_places = record { live = 0; free = []; room = 0 }

-- a stream that was made, and both of whose ends are gone
pub record IsGone (streams : List Stream) (n : ℕ) : Type 0 where
  pub made : n < length streams
  pub gone : is_live (slice_index_or streams n no_stream) ≡ false

-- the free places are those of the streams that are gone, each once; to free all takes no memory
pub record ArePlaces (places : Places) (streams : List Stream) : Type 0 where
  pub live : places.live ≡ count_by is_live streams
  pub free : All (IsGone streams) places.free
  pub apart : AreApart places.free
  pub all : length places.free + places.live ≡ length streams
  pub room : length streams ≤ places.room

-- the place of a stream that had an end and has none is free
abbrev pub settled : Places → ℕ → Bool → Bool → Places
settled places n true false = record { live = places.live - 1; free = n ∷ places.free; room = places.room }
settled places n _ _ = places

-- the free place that a stream gets next, if there is one
abbrev pub next_free : List ℕ → Option ℕ
next_free [] = None
next_free (n ∷ free) = Some n

-- a stream more gets it
abbrev pub taken : Places → Places
taken places = record { live = places.live + 1; free = drop 1 places.free; room = places.room }

-- a stream more, behind the last
abbrev pub added_place : Places → Places
added_place places = record { live = places.live + 1; free = places.free; room = places.room }
