-- What a mux was given, and what it has written. Ours.
use Rattle.std.specs.Prelude.{◌≡◌, ℕ, zero, suc, ◌<◌, Bool, false, List, [], ◌∷◌, length, take, drop, slice_index_or}
use Rattle.strm_frames.specs.Frames.{Frame, Data, encoding, lane_in, ends, AreFrames}

-- the bytes of its frames, and which lanes it ended
pub record Written : Type 0 where
  pub bytes : List ℕ
  pub ended : List Bool

-- so many data frames of a lane, each of 255 bytes or of what is left of them
unfoldable pub pieces_in : ℕ → ℕ → List ℕ → List Frame
pieces_in zero lane bytes = []
pieces_in (suc n) lane [] = []
pieces_in (suc n) lane (b ∷ bytes) =
    Data lane (take 255 (b ∷ bytes)) ∷ pieces_in n lane (drop 255 (b ∷ bytes))

-- all of them: frames of 255 bytes, and one for the rest
unfoldable pub pieces_of : ℕ → List ℕ → List Frame
pieces_of lane bytes = pieces_in (length bytes) lane bytes

-- it was given these bytes and ends, in this order, where a `Data` of a lane has whatever was put at once:
-- its frames give each lane just these
pub record MuxCarries (written : Written) (given : List Frame) : Type 0 where
  pub frames : List Frame
  pub spelled : written.bytes ≡ encoding frames
  pub are : AreFrames frames
  pub lanes : (lane : ℕ) → lane_in lane frames ≡ lane_in lane given
  pub ended : (lane : ℕ) → ends lane frames ≡ ends lane given
  pub flags : (lane : ℕ) → lane < 256 → slice_index_or written.ended lane false ≡ ends lane given

-- each mux was given something
pub record IsMux (written : Written) : Type 0 where
  pub given : List Frame
  pub carries : MuxCarries written given
