-- How a line is read: the inverse of `line_of_frame`; and what code knows of a mux and of lines. Ours.
use Rattle.std.specs.Prelude.{◌≡◌, ℕ, true, false, List, [], ◌∷◌, ◌++◌, length, map, All, codes, slice_index_or, Option, Some, None}
use Rattle.std.specs.Option.{option_map}
use Rattle.strm_lines.specs.Lines.{lines_of}
use Rattle.strm_lines.specs.Reading.{behind, followed_by, number_within, hex}
use Rattle.strm_frames.specs.Frames.{Frame, Data, End, lane_named, spelled, encoding, AreFrames}
use Rattle.strm_frames.specs.Muxes.{Written, MuxCarries}
use Rattle.strm_mux.specs.declared.lines.Line.{Line}
use Rattle.strm_mux.specs.declared.lines.Line.TheVariants as lines
use Rattle.strm_mux.specs.Lines.{line_of_frame, FrameHasLine, Puts}

-- what a line puts
abbrev pub frame_of : Line → Frame
frame_of (lines.Lane lane bytes) = Data lane bytes
frame_of (lines.End lane) = End lane

-- the number of a lane
abbrev pub lane_read : List ℕ → Option ℕ
lane_read = number_within 0 255

-- behind `lane`
abbrev pub data_read : List ℕ → Option Frame
data_read rest = option_map (λ p. Data p.0 p.1) (followed_by lane_read hex rest)

-- behind `end`
abbrev pub end_read : List ℕ → Option Frame
end_read rest = option_map (λ lane. End lane) (lane_read rest)

-- what a line that begins with another word puts
abbrev pub other_read : Option (List ℕ) → Option Frame
other_read (Some rest) = end_read rest
other_read None = None

-- what a line puts, if it is in the grammar
abbrev pub front_read : Option (List ℕ) → List ℕ → Option Frame
front_read (Some rest) line = data_read rest
front_read None line = other_read (behind (codes "end ") line)

-- the same of a whole line
unfoldable pub line_read : List ℕ → Option Frame
line_read line = front_read (behind (codes "lane ") line) line

-- a mux was given what a line puts
pub record TakesLine (old new : Written) (line : List ℕ) : Type 0 where
  pub frame : Frame
  pub read : line_read line ≡ Some frame
  pub unended : slice_index_or old.ended (lane_named frame) false ≡ false
  pub bytes : new.bytes ≡ old.bytes ++ spelled frame
  pub carries : (given : List Frame) → MuxCarries old given → MuxCarries new (given ++ frame ∷ [])

-- a line puts nothing, or on a lane that ended
abbrev pub IsRefused : Written → List ℕ → Type 0
IsRefused old line =
    (frame : Frame) → line_read line ≡ Some frame →
    slice_index_or old.ended (lane_named frame) false ≡ true

-- a mux was given what these lines put, and nothing else
pub record HoldsLines (written : Written) (lines : List (List ℕ)) : Type 0 where
  pub given : List Frame
  pub puts : Puts lines given
  pub carries : MuxCarries written given
  pub bytes : written.bytes ≡ encoding given

-- the same of the lines before the rest
pub record HoldsSoFar (written : Written) (bytes rest : List ℕ) (count : ℕ) : Type 0 where
  pub given : List Frame
  pub lines : lines_of bytes ≡ map line_of_frame given ++ lines_of rest
  pub have : All FrameHasLine given
  pub are : AreFrames given
  pub carries : MuxCarries written given
  pub spelled_is : written.bytes ≡ encoding given
  pub count_is : count ≡ length given
