-- What two lanes of one stream tell, however it is cut.
use Rattle.std.proofs.Common.{◌≡◌, ℕ, ◌<◌, Bool, true, false, List, [], ◌∷◌, ◌++◌, slice_index_or, take, drop, append-nil, take-append-drop, refl, sym, ap, ◌∙◌, arith}
use Rattle.strm_frames.specs.Demuxes.{LanesHeard, IsDemuxFed}
use Rattle.strm_frames.specs.Frames.{Frame, Data, End, encoding, lane_in, ends}
use Rattle.strm_frames.specs.Muxes.{Written, MuxCarries}
use Rattle.strm_frames.specs.Streams.{IsPartOfFrame, Splits}

-- no bytes are the front of a frame
no_part : IsPartOfFrame []
no_part = record { frame = End 0; more = 1 ∷ 0 ∷ []; is = tt; some = omega arith; begins = refl }

-- bytes have one reading
abbrev pub OneReading : Type 0
OneReading = (bytes : List ℕ) (frames others : List Frame) (rest left : List ℕ) → Splits bytes frames rest → Splits bytes others left → (frames ≡ others) × (rest ≡ left)

-- a demux that was fed what a mux wrote has the lanes and ends that the mux was given, and no rest
pub record Told (heard : LanesHeard) (given : List Frame) : Type 0 where
  pub lanes : (lane : ℕ) → lane < 256 → slice_index_or heard.lanes lane [] ≡ lane_in lane given
  pub ended : (lane : ℕ) → lane < 256 → slice_index_or heard.ended lane false ≡ ends lane given
  pub rest : heard.rest ≡ []

pub told : (heard : LanesHeard) (written : Written) (given : List Frame) (bytes : List ℕ) → OneReading → MuxCarries written given → bytes ≡ written.bytes → IsDemuxFed heard bytes → Told heard given
told heard written given bytes one c e f =
    let all : Splits bytes c.frames [] = record { whole = e ∙ c.spelled ∙ sym (append-nil (encoding c.frames)); are = c.are; part = no_part } in
    let s : (f.frames ≡ c.frames) × (heard.rest ≡ []) = one bytes f.frames c.frames heard.rest [] f.splits all in
    record {
      lanes = λ lane h. f.lanes lane h ∙ ap (lane_in lane) s.0 ∙ c.lanes lane;
      ended = λ lane h. f.ended lane h ∙ ap (ends lane) s.0 ∙ c.ended lane;
      rest = s.1;
    }

-- bytes on lanes 0 and 1, and the end of lane 0
abbrev pub two : List ℕ → List ℕ → List Frame
two first second = Data 0 first ∷ Data 1 second ∷ End 0 ∷ []

pub first_of : (first second : List ℕ) → lane_in 0 (two first second) ≡ first
first_of first second = append-nil first

pub second_of : (first second : List ℕ) → lane_in 1 (two first second) ≡ second
second_of first second = append-nil second

pub ended_of : (first second : List ℕ) → ends 0 (two first second) ≡ true
unfolding ends
ended_of first second = refl

pub open_of : (first second : List ℕ) → ends 1 (two first second) ≡ false
unfolding ends
open_of first second = refl

-- what the two lanes have then
pub record TwoTold (heard : LanesHeard) (one other : List ℕ) : Type 0 where
  pub first : slice_index_or heard.lanes 0 [] ≡ one
  pub second : slice_index_or heard.lanes 1 [] ≡ other
  pub ended : slice_index_or heard.ended 0 false ≡ true
  pub unended : slice_index_or heard.ended 1 false ≡ false
  pub rest : heard.rest ≡ []

pub two_told : (heard : LanesHeard) (written : Written) (first second front back bytes : List ℕ) (n : ℕ) → OneReading → MuxCarries written (two first second) → IsDemuxFed heard (front ++ back) → front ≡ take n bytes → back ≡ drop n bytes → bytes ≡ written.bytes → TwoTold heard first second
two_told heard written first second front back bytes n one c f a b e =
    let whole : front ++ back ≡ written.bytes = ap (λ (l : List ℕ). l ++ back) a ∙ ap (λ (l : List ℕ). take n bytes ++ l) b ∙ take-append-drop n bytes ∙ e in
    let t : Told heard (two first second) = told heard written (two first second) (front ++ back) one c whole f in
    record {
      first = t.lanes 0 (omega arith) ∙ first_of first second;
      second = t.lanes 1 (omega arith) ∙ second_of first second;
      ended = t.ended 0 (omega arith) ∙ ended_of first second;
      unended = t.ended 1 (omega arith) ∙ open_of first second;
      rest = t.rest;
    }
