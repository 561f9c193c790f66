-- What stands at the front of bytes, read from the left. The grammar of `Frames.antt` knows none of this.
-- Ours.
use Rattle.std.specs.Prelude.{◌≡◌, ℕ, ◌==◌, List, [], ◌∷◌, length, take, drop, nat_lt, if◌then◌else◌}
use Rattle.strm_frames.specs.Frames.{Frame, Data, End}
use Rattle.strm_frames.specs.declared.fronts.Front.{Front}
use Rattle.strm_frames.specs.declared.fronts.Front.TheVariants as fronts

-- a whole frame and what follows it; less than one; neither 00 nor 01; a data frame of no bytes
pub data NextFrame : Type 0 where
  Whole : Frame → List ℕ → NextFrame
  Part : NextFrame
  Other : NextFrame
  Empty : NextFrame

-- behind 00
abbrev pub data_at : List ℕ → NextFrame
data_at [] = Part
data_at (lane ∷ []) = Part
data_at (lane ∷ n ∷ rest) =
    if n == 0 then Empty
    else if nat_lt (length rest) n then Part
    else Whole (Data lane (take n rest)) (drop n rest)

-- behind 01
abbrev pub end_at : List ℕ → NextFrame
end_at [] = Part
end_at (lane ∷ more) = Whole (End lane) more

-- the frame at the front of bytes, or why there is none
unfoldable pub front_of : List ℕ → NextFrame
front_of [] = Part
front_of (kind ∷ more) =
    if kind == 0 then data_at more
    else if kind == 1 then end_at more
    else Other

-- the bytes begin with this one
abbrev pub HasKind : ℕ → List ℕ → Type 0
HasKind kind [] = ⊥
HasKind kind (k ∷ more) = k ≡ kind

-- what code finds, as such
abbrev pub front_seen : Front → NextFrame
front_seen (fronts.Data lane bytes more) = Whole (Data lane bytes.now) more.now
front_seen (fronts.End lane more) = Whole (End lane) more.now
front_seen fronts.Part = Part
front_seen fronts.Other = Other
front_seen fronts.Empty = Empty
