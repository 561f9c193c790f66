-- What a demux has heard. Ours.
use Rattle.std.specs.Prelude.{◌≡◌, ℕ, ◌<◌, Bool, true, false, List, [], ◌∷◌, length, slice_index_or, Option}
use Rattle.strm_frames.specs.Frames.{Frame, encoding, lane_in, ends}
use Rattle.strm_frames.specs.Streams.{Splits, place_told}
use Rattle.strm_frames.specs.declared.errors.Fault.{Fault}
use Rattle.strm_frames.specs.declared.errors.Fault.TheVariants as faults
use Rattle.strm_frames.specs.declared.errors.MuxError.{MuxError}
use Rattle.strm_frames.specs.declared.errors.MuxError.TheVariants as errors

-- the bytes of each lane, whether it ended, what has come of the next frame, the place of that frame, and
-- the fault that was found
pub record LanesHeard : Type 0 where
  pub lanes : List (List ℕ)
  pub ended : List Bool
  pub rest : List ℕ
  pub place : ℕ
  pub fault : Option Fault

-- no flag is set
abbrev pub are_unset : List Bool → Bool
are_unset [] = true
are_unset (true ∷ more) = false
are_unset (false ∷ more) = are_unset more

-- it was fed these bytes, in whatever pieces: each lane is the lane of their whole frames, and the rest is
-- theirs
pub record IsDemuxFed (heard : LanesHeard) (bytes : List ℕ) : Type 0 where
  pub frames : List Frame
  pub splits : Splits bytes frames heard.rest
  pub lanes : (lane : ℕ) → lane < 256 → slice_index_or heard.lanes lane [] ≡ lane_in lane frames
  pub ended : (lane : ℕ) → lane < 256 → slice_index_or heard.ended lane false ≡ ends lane frames
  pub place : heard.place ≡ place_told (length (encoding frames))

-- how a fault is answered
abbrev pub error_of : Fault → MuxError
error_of (faults.BadKind at) = errors.BadKind at
error_of (faults.EmptyFrame at) = errors.EmptyFrame at
error_of (faults.AfterEnd at) = errors.AfterEnd at
