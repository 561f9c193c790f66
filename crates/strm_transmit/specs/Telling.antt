-- What the store knows of which members of sets are ready: a guest's handle is said to be among those
-- of a set where it is in that set and its end has a report. Ours.
use Rattle.std.specs.Prelude.{◌≡◌, ◌≢◌, ℕ, Bool, true, false, List, [], slice_index_or, Option, Some, is_some}
use Rattle.strm_waitable_sets.specs.Ready.{Says}
use Rattle.strm_waitable_sets.specs.Sets.{is_member}
use Rattle.strm_machine.specs.State.{Guest, no_stream, sets_in}
use Rattle.strm_machine.specs.Sides.{opposite, end_of}
use Rattle.strm_machine.specs.Endings.{report_on}
use Rattle.strm_machine.specs.declared.streams.Owner.TheVariants.{Held}
use Rattle.strm_machine.specs.declared.streams.Side.{Side}
use Rattle.strm_machine.specs.declared.streams.Stream.{Stream}

-- what is known of the ready members of each guest's sets
abbrev pub Ready : Type 0
Ready = List (List (Option (List ℕ)))

-- where the ready members of a guest's set are known, a handle is one of them, or is none
abbrev pub SaysOf : Ready → ℕ → ℕ → ℕ → Bool → Type 0
SaysOf ready g number handle b = Says (slice_index_or ready g []) number handle b

-- a guest's handle is in its set of this number
abbrev pub member_of : List Guest → ℕ → ℕ → ℕ → Bool
member_of guests g number handle = is_member (sets_in guests g) number handle

-- the end on a side of a stream is to be told something
abbrev pub has_report : Side → Stream → Bool
has_report side stream = is_some (report_on side stream)

-- of an end that a guest has, what is known of its handle is whether it has a report; and a handle is
-- ready in no set that it is not in
pub record AreTold (guests : List Guest) (streams : List Stream) (ready : Ready) : Type 0 where
  pub told : (g number handle s : ℕ) (side : Side) →
      (end_of side (slice_index_or streams s no_stream)).owner ≡ Held g handle →
      member_of guests g number handle ≡ true →
      SaysOf ready g number handle (has_report side (slice_index_or streams s no_stream))
  pub within : (g number handle : ℕ) →
      member_of guests g number handle ≡ false → SaysOf ready g number handle false

-- what is known of the ends of one stream is as it is now, and of other handles as it was
pub record Retells (guests : List Guest) (stream : Stream) (old new : Ready) : Type 0 where
  pub told : (side : Side) (g number handle : ℕ) →
      (end_of side stream).owner ≡ Held g handle →
      ((end_of (opposite side) stream).owner ≢ Held g handle) →
      member_of guests g number handle ≡ true →
      SaysOf new g number handle (has_report side stream)
  pub others : (g number handle : ℕ) (b : Bool) → SaysOf old g number handle b →
      ((side : Side) → (end_of side stream).owner ≡ Held g handle →
      member_of guests g number handle ≡ true → true ≡ false) →
      SaysOf new g number handle b

-- a handle of a guest is ready in none of its sets, and of other handles is known what was
pub record Leaves (g handle : ℕ) (home : Option ℕ) (old new : Ready) : Type 0 where
  pub gone : (number : ℕ) → (home ≢ Some number → SaysOf old g number handle false) →
      SaysOf new g number handle false
  pub others : (k number other : ℕ) (b : Bool) → SaysOf old k number other b →
      (k ≡ g → other ≢ handle) → SaysOf new k number other b
