-- What the bytes of a stream are: whole frames and less than one more, or the first fault behind whole
-- frames. Ours.
use Rattle.std.specs.Prelude.{◌≡◌, ◌≢◌, ℕ, ◌<◌, min, true, List, [], ◌∷◌, ◌++◌, length}
use Rattle.strm_frames.specs.Frames.{Frame, lane_named, spelled, IsFrame, encoding, ends, AreFrames}
use Rattle.strm_frames.specs.declared.errors.Fault.{Fault}
use Rattle.strm_frames.specs.declared.errors.Fault.TheVariants.{BadKind, EmptyFrame, AfterEnd}

-- the bytes are whole frames, one after the other
pub record AreWhole (bytes : List ℕ) : Type 0 where
  pub frames : List Frame
  pub spelled : bytes ≡ encoding frames
  pub are : AreFrames frames

-- a proper prefix of a frame
pub record IsPartOfFrame (rest : List ℕ) : Type 0 where
  pub frame : Frame
  pub more : List ℕ
  pub is : IsFrame frame
  pub some : 0 < length more
  pub begins : spelled frame ≡ rest ++ more

-- the bytes are these whole frames, and then less than a whole one
pub record Splits (bytes : List ℕ) (frames : List Frame) (rest : List ℕ) : Type 0 where
  pub whole : bytes ≡ encoding frames ++ rest
  pub are : AreFrames frames
  pub part : IsPartOfFrame rest

-- what comes next has another kind than 00 and 01
abbrev pub HasBadKind : List ℕ → Type 0
HasBadKind [] = ⊥
HasBadKind (kind ∷ more) = (kind ≢ 0) × (kind ≢ 1)

-- it is a data frame of no bytes
abbrev pub HasNoBytes : List ℕ → Type 0
HasNoBytes (kind ∷ lane ∷ n ∷ more) = (kind ≡ 0) × (n ≡ 0)
HasNoBytes _ = ⊥

-- it is a whole frame of a lane that ended before
pub record NamesEnded (frames : List Frame) (next : List ℕ) : Type 0 where
  pub frame : Frame
  pub more : List ℕ
  pub is : IsFrame frame
  pub begins : next ≡ spelled frame ++ more
  pub ended : ends (lane_named frame) frames ≡ true

-- the place of a byte, as far as a number of 64 bits tells it
abbrev pub place_told : ℕ → ℕ
place_told n = min n 18446744073709551615

-- behind these frames, at this place, comes this fault
abbrev pub IsFrameFault : List Frame → ℕ → List ℕ → Fault → Type 0
IsFrameFault frames place next (BadKind at) = (at ≡ place_told place) × HasBadKind next
IsFrameFault frames place next (EmptyFrame at) = (at ≡ place_told place) × HasNoBytes next
IsFrameFault frames place next (AfterEnd at) = (at ≡ place_told place) × NamesEnded frames next

-- the bytes have this first fault, at the place of its frame's first byte
pub record Faults (bytes : List ℕ) (fault : Fault) : Type 0 where
  pub frames : List Frame
  pub next : List ℕ
  pub whole : bytes ≡ encoding frames ++ next
  pub are : AreFrames frames
  pub is : IsFrameFault frames (length (encoding frames)) next fault
