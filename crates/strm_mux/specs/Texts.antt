-- The text of what came over the stream, lane by lane. Ours.
use Rattle.std.specs.Prelude.{ℕ, zero, suc, ◌==◌, ◌||◌, Bool, true, false, List, [], ◌∷◌, ◌++◌, length, codes, decimal, if◌then◌else◌}
use Rattle.strm_lines.specs.Grammar.{words}
use Rattle.strm_lines.specs.Words.{hex_pairs}
use Rattle.strm_lines.specs.Text.{line_ended}
use Rattle.strm_frames.specs.Frames.{Frame, lane_named, lane_in, ends}

-- one of these names the lane
unfoldable pub names_lane : ℕ → List Frame → Bool
names_lane lane [] = false
names_lane lane (frame ∷ more) = (lane_named frame == lane) || names_lane lane more

-- a lane's bytes behind their number: a space and pairs of digits, or nothing for none
abbrev pub bytes_text : List ℕ → List ℕ
bytes_text [] = []
bytes_text (b ∷ bytes) = 32 ∷ hex_pairs (b ∷ bytes)

-- that a lane ended
abbrev pub end_text : Bool → List ℕ
end_text true = codes " end"
end_text false = []

-- a lane: its number, how many bytes it has, these, and whether it ended
abbrev pub lane_text : ℕ → List ℕ → Bool → List ℕ
lane_text lane bytes is_ended =
    words (codes "lane" ∷ decimal lane ∷ decimal (length bytes) ∷ [])
    ++ bytes_text bytes ++ end_text is_ended

-- the line of a lane that was named, with all that was put on it
abbrev pub lane_line : ℕ → List Frame → List ℕ
lane_line lane given =
    if names_lane lane given
    then line_ended (lane_text lane (lane_in lane given) (ends lane given)) else []

-- those of the lanes below a number, ascending
unfoldable pub lanes_below : ℕ → List Frame → List ℕ
lanes_below zero given = []
lanes_below (suc lane) given = lanes_below lane given ++ lane_line lane given

-- how many bytes came over the stream
abbrev pub moved_text : ℕ → List ℕ
moved_text moved = words (codes "moved" ∷ decimal moved ∷ [])

-- the whole text: the lanes from 0 to 255, and how many bytes came
abbrev pub output_text : List Frame → ℕ → List ℕ
output_text given moved = lanes_below 256 given ++ line_ended (moved_text moved)

-- what is written where the words of the program are no two sizes
abbrev pub mux_usage_text : List ℕ
mux_usage_text = line_ended (codes "usage: mux WRITE READ")
