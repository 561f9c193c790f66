-- What passes over a piece find and do: by flags that say which lanes ended, and by lists of lanes. Ours.
use Rattle.std.specs.Prelude.{◌≡◌, ℕ, ◌+◌, ◌-◌, ◌<◌, Bool, true, false, List, [], ◌∷◌, ◌++◌, length, take, slice_index_or, slice_set, ◌≤◌, Option, Some, None}
use Rattle.strm_frames.specs.Frames.{Frame, Data, End, lane_named, spelled, IsFrame, encoding, lane_in}
use Rattle.strm_frames.specs.Streams.{IsPartOfFrame, HasBadKind, HasNoBytes, place_told}
use Rattle.strm_frames.specs.Fronts.{Whole, Part, front_of}
use Rattle.strm_frames.specs.declared.errors.Fault.{Fault}
use Rattle.strm_frames.specs.declared.errors.Fault.TheVariants.{BadKind, EmptyFrame, AfterEnd}

-- the flags after a frame
abbrev pub flagged : List Bool → Frame → List Bool
flagged flags (Data lane bytes) = flags
flagged flags (End lane) = slice_set flags lane true

-- the flags after some
unfoldable pub flags_after : List Bool → List Frame → List Bool
flags_after flags [] = flags
flags_after flags (frame ∷ more) = flags_after (flagged flags frame) more

-- frames of lanes that are bytes, none of which names a lane whose flag is set
unfoldable pub AreAllowed : List Bool → List Frame → Type 0
AreAllowed flags [] = Unit {0}
AreAllowed flags (frame ∷ more) =
    IsFrame frame × (lane_named frame < 256)
    × (slice_index_or flags (lane_named frame) false ≡ false)
    × AreAllowed (flagged flags frame) more

-- frames of lanes that are bytes
unfoldable pub AreEach : List Frame → Type 0
AreEach [] = Unit {0}
AreEach (frame ∷ more) = IsFrame frame × (lane_named frame < 256) × AreEach more

-- a whole frame of a lane whose flag is set
pub record NamesFlagged (flags : List Bool) (next : List ℕ) : Type 0 where
  pub frame : Frame
  pub more : List ℕ
  pub is : IsFrame frame
  pub below : lane_named frame < 256
  pub begins : next ≡ spelled frame ++ more
  pub flag : slice_index_or flags (lane_named frame) false ≡ true

-- behind frames after which the flags are these, at this place, comes this fault
abbrev pub IsFlagged : List Bool → ℕ → List ℕ → Fault → Type 0
IsFlagged flags place next (BadKind at) = (at ≡ place_told place) × HasBadKind next
IsFlagged flags place next (EmptyFrame at) = (at ≡ place_told place) × HasNoBytes next
IsFlagged flags place next (AfterEnd at) = (at ≡ place_told place) × NamesFlagged flags next

-- a whole frame with nothing behind it, a fault, or nothing
pub record StopsAtFrame (bytes : List ℕ) : Type 0 where
  pub no_part : Part ≡ front_of bytes → bytes ≡ []
  pub no_more : (frame : Frame) (more : List ℕ) → Whole frame more ≡ front_of bytes → more ≡ []

-- so much of a piece was added to the first bytes of a frame that this is whole, or a fault is found
pub record IsCompleted (old new piece : List ℕ) (used : ℕ) : Type 0 where
  pub within : used ≤ length piece
  pub added : new ≡ old ++ take used piece
  pub stops : StopsAtFrame new

-- all of it was added, and less than a frame has come
pub record IsShortOfFrame (old new piece : List ℕ) : Type 0 where
  pub added : new ≡ old ++ piece
  pub part : IsPartOfFrame new

-- the one where it is told how much that was, the other where not
abbrev pub IsFrameBegun : List ℕ → List ℕ → List ℕ → Option ℕ → Type 0
IsFrameBegun old new piece None = IsShortOfFrame old new piece
IsFrameBegun old new piece (Some used) = IsCompleted old new piece used

-- the bytes are whole frames of lanes that are bytes
pub record AreSpelledFrames (bytes : List ℕ) : Type 0 where
  pub frames : List Frame
  pub spelled : bytes ≡ encoding frames
  pub are : AreEach frames

-- allowed frames, behind which comes less than a frame
pub record Surveys (bytes : List ℕ) (flags after : List Bool) (used : ℕ) : Type 0 where
  pub frames : List Frame
  pub left : List ℕ
  pub whole : bytes ≡ encoding frames ++ left
  pub used_is : used ≡ length (encoding frames)
  pub allowed : AreAllowed flags frames
  pub flags_are : after ≡ flags_after flags frames
  pub part : IsPartOfFrame left

-- allowed frames, behind which comes a fault
pub record SurveysFault (bytes : List ℕ) (flags : List Bool)
    (place : ℕ) (fault : Fault) : Type 0 where
  pub frames : List Frame
  pub next : List ℕ
  pub whole : bytes ≡ encoding frames ++ next
  pub allowed : AreAllowed flags frames
  pub is : IsFlagged (flags_after flags frames) (place + length (encoding frames)) next fault

-- each lane has these frames' bytes more
pub record ExtendsLanes (old new : List (List ℕ)) (frames : List Frame) : Type 0 where
  pub same : length new ≡ length old
  pub each : (lane : ℕ) → lane < 256 →
      slice_index_or new lane [] ≡ slice_index_or old lane [] ++ lane_in lane frames

-- behind these bytes comes no whole frame
pub record IsHalted (bytes : List ℕ) : Type 0 where
  pub none : (frame : Frame) (more : List ℕ) → front_of bytes ≡ Whole frame more → ⊥

-- the frames at the front of bytes, all of them, and so many bytes, were put into lanes
pub record Appends (bytes : List ℕ) (old new : List (List ℕ)) : Type 0 where
  pub frames : List Frame
  pub left : List ℕ
  pub whole : bytes ≡ encoding frames ++ left
  pub are : AreEach frames
  pub halts : IsHalted left
  pub extends : ExtendsLanes old new frames

-- only some of them were, which take so many bytes
pub record AppendsSome (bytes : List ℕ) (old new : List (List ℕ)) (done : ℕ) : Type 0 where
  pub frames : List Frame
  pub left : List ℕ
  pub whole : bytes ≡ encoding frames ++ left
  pub are : AreEach frames
  pub done_is : done ≡ length (encoding frames)
  pub long : length old ≡ 256
  pub extends : ExtendsLanes old new frames

-- so many bytes of a lane are in the frames at the front of bytes
pub record Counts (bytes : List ℕ) (lane count : ℕ) : Type 0 where
  pub frames : List Frame
  pub left : List ℕ
  pub whole : bytes ≡ encoding frames ++ left
  pub are : AreEach frames
  pub halts : IsHalted left
  pub count_is : count ≡ length (lane_in lane frames)

-- each lane has lost as many bytes at its end as frames at the front of bytes had for it
pub record Retracts (bytes : List ℕ) (old new : List (List ℕ)) : Type 0 where
  pub same : length new ≡ length old
  pub each : (lane : ℕ) → lane < 256 → (count : ℕ) × Counts bytes lane count
      × (slice_index_or new lane []
      ≡ take (length (slice_index_or old lane []) - count) (slice_index_or old lane []))
