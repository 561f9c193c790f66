-- The lines of an input, and what they put on lanes. Ours.
use Rattle.std.specs.Prelude.{◌≡◌, ℕ, ◌-◌, ◌<◌, ◌≤◌, List, [], ◌∷◌, length, map, take, All, codes, decimal}
use Rattle.strm_lines.specs.Grammar.{words, IsLineBytes}
use Rattle.strm_lines.specs.Words.{hex_pairs}
use Rattle.strm_frames.specs.Frames.{Frame, Data, End, AreFrames}

-- the line that puts these bytes on a lane, or ends it: a word, the lane's number, and the bytes as pairs of
-- hexadecimal digits
abbrev pub line_of_frame : Frame → List ℕ
line_of_frame (Data lane bytes) = words (codes "lane" ∷ decimal lane ∷ hex_pairs bytes ∷ [])
line_of_frame (End lane) = words (codes "end" ∷ decimal lane ∷ [])

-- what a line can put: from 1 to 64 bytes, on a lane from 0 to 255
abbrev pub FrameHasLine : Frame → Type 0
FrameHasLine (Data lane bytes) = (lane ≤ 255) × IsLineBytes bytes
FrameHasLine (End lane) = lane ≤ 255

-- the lines put these, one each, and none names a lane that a line before it ended
pub record Puts (lines : List (List ℕ)) (given : List Frame) : Type 0 where
  pub each : lines ≡ map line_of_frame given
  pub have : All FrameHasLine given
  pub are : AreFrames given

-- the lines up to this one, counted from 1, put nothing, and those before it put something: it is not in the
-- grammar, or names a lane that ended
pub record IsFirstBadLaneLine (lines : List (List ℕ)) (number : ℕ) : Type 0 where
  pub first : 1 ≤ number
  pub last : number ≤ length lines
  pub before : (given : List Frame) × Puts (take (number - 1) lines) given
  pub bad : (given : List Frame) → ¬ Puts (take number lines) given

-- an input over the limit of 262,144 bytes
abbrev pub IsMuxTooLong : List ℕ → Type 0
IsMuxTooLong bytes = 262144 < length bytes
