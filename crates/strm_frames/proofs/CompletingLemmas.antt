-- A frame of which some bytes came before is completed.
use Rattle.std.proofs.Common.{◌≡◌, ◌≢◌, ℕ, ◌+◌, ◌-◌, ◌<◌, ◌≤◌, List, [], ◌∷◌, ◌++◌, length, min, take, drop, refl, sym, ap, ◌∙◌, arith, inl, inr, length-append, length-take}
use Rattle.std.proofs.Math.Seq.{take-length, take-append-add}
use Rattle.std.proofs.lemmas.Bool.{cases_lt}
use Rattle.std.proofs.lemmas.List.{append-nil, append_assoc, take_at, take-take, take-append-le, take-append-drop}
use Rattle.strm_frames.specs.Frames.{Frame, Data, End, spelled, IsFrame}
use Rattle.strm_frames.specs.Streams.{IsPartOfFrame}
use Rattle.strm_frames.specs.Fronts.{Whole, Part, Other, Empty, front_of}
use Rattle.strm_frames.specs.Taking.{StopsAtFrame, IsCompleted, IsShortOfFrame}
use Rattle.strm_frames.proofs.FrontLemmas.{IsBytes, front-spelled, front-part, whole_sound}

-- less than a frame has at most 257 bytes
pub part_few : (b : List ℕ) → IsPartOfFrame b → length b < 258
part_few b p = by_frame p.frame p.more p.is p.some p.begins
  where
    by_frame : (f : Frame) (more : List ℕ) → IsFrame f → 0 < length more → spelled f ≡ b ++ more → length b < 258
    by_frame (Data l bytes) more h s e = omega (arith, h.1, s, ap length e, length-append b more)
    by_frame (End l) more h s e = omega (arith, s, ap length e, length-append b more)

-- WHERE A FRAME STOPS

spelled_some : (f : Frame) → 0 < length (spelled f)
spelled_some (Data l bytes) = omega arith
spelled_some (End l) = omega arith

-- so many bytes stop at a frame
pub record StopsAfter (b : List ℕ) (n : ℕ) : Type 0 where
  pub some : 0 < n
  pub within : n ≤ length b
  pub stops : StopsAtFrame (take n b)

pub stops_whole : (f : Frame) (b more : List ℕ) (n : ℕ) → IsBytes b → Whole f more ≡ front_of b → n ≡ length b - length more → StopsAfter b n
stops_whole f b more n t e d =
    let s = whole_sound b f more t e in
    let all : length b ≡ length (spelled f) + length more = ap length s.0 ∙ length-append (spelled f) more in
    let long : length (spelled f) ≡ n = omega (arith, all) in
    let front : take n b ≡ spelled f ++ [] = ap (take n) s.0 ∙ take_at (spelled f) more n long ∙ sym (append-nil (spelled f)) in
    let w : front_of (take n b) ≡ Whole f [] = ap front_of front ∙ front-spelled f [] s.1 in
    record {
      some = omega (arith, long, spelled_some f);
      within = omega arith;
      stops = record {
        no_part = λ q. absurd (let p : Part ≡ Whole f [] = q ∙ w in cc);
        no_more = λ g m q. let p : Whole g m ≡ Whole f [] = q ∙ w in cc;
      };
    }

some_other : (b : List ℕ) → Other ≡ front_of b → 0 < length b
unfolding front_of
some_other [] e = cc
some_other (k ∷ b) e = omega arith

some_empty : (b : List ℕ) → Empty ≡ front_of b → 0 < length b
unfolding front_of
some_empty [] e = cc
some_empty (k ∷ b) e = omega arith

pub stops_other : (b : List ℕ) (n : ℕ) → Other ≡ front_of b → n ≡ length b → StopsAfter b n
stops_other b n e d =
    let w : front_of (take n b) ≡ Other = ap (λ (k : ℕ). front_of (take k b)) d ∙ ap front_of (take-length b) ∙ sym e in
    record {
      some = omega (arith, some_other b e);
      within = omega arith;
      stops = record {
        no_part = λ q. absurd (let p : Part ≡ Other = q ∙ w in cc);
        no_more = λ g m q. absurd (let p : Whole g m ≡ Other = q ∙ w in cc);
      };
    }

pub stops_empty : (b : List ℕ) (n : ℕ) → Empty ≡ front_of b → n ≡ length b → StopsAfter b n
stops_empty b n e d =
    let w : front_of (take n b) ≡ Empty = ap (λ (k : ℕ). front_of (take k b)) d ∙ ap front_of (take-length b) ∙ sym e in
    record {
      some = omega (arith, some_empty b e);
      within = omega arith;
      stops = record {
        no_part = λ q. absurd (let p : Part ≡ Empty = q ∙ w in cc);
        no_more = λ g m q. absurd (let p : Whole g m ≡ Empty = q ∙ w in cc);
      };
    }

part_front : (b : List ℕ) (n : ℕ) → IsPartOfFrame b → IsPartOfFrame (take n b)
part_front b n p = record {
  frame = p.frame;
  more = drop n b ++ p.more;
  is = p.is;
  some = omega (arith, p.some, length-append (drop n b) p.more);
  begins = p.begins ∙ ap (λ (s : List ℕ). s ++ p.more) (sym (take-append-drop n b)) ∙ append_assoc (take n b) (drop n b) p.more;
}

pub more_within : (f : Frame) (b more : List ℕ) → IsBytes b → Whole f more ≡ front_of b → length more ≤ length b
more_within f b more t e =
    let s = whole_sound b f more t e in
    omega (arith, ap length s.0, length-append (spelled f) more)

-- it stops behind the bytes that came before
pub longer : (old more : List ℕ) (n : ℕ) → IsPartOfFrame old → StopsAfter (old ++ more) n → length old < n
longer old more n p s = elim (cases_lt (length old) n) [
  | inl l ↦ l
  | inr g ↦ absurd (
      let front : take n (old ++ more) ≡ take n old = take-append-le n old more g in
      let w : Part ≡ front_of (take n (old ++ more)) = sym (front-part (take n old) (part_front old n p)) ∙ ap front_of (sym front) in
      let none : take n old ≡ [] = sym front ∙ s.stops.no_part w in
      omega (arith, s.some, ap length none, length-take n old))
]

-- WHAT A PIECE ADDS

nothing_stops : (b : List ℕ) → length b ≡ 0 → StopsAtFrame b
unfolding front_of
nothing_stops [] l = record { no_part = λ q. refl; no_more = λ f more q. cc }
nothing_stops (k ∷ b) l = absurd (omega arith)

pub completed_none : (old piece : List ℕ) → length old ≡ 0 → IsCompleted old old piece 0
completed_none old piece l = record { within = omega arith; added = sym (append-nil old); stops = nothing_stops old l }

pub completed_some : (old front piece buffer new : List ℕ) (len used : ℕ) → IsPartOfFrame old → front ≡ take (min (length piece) 257) piece → buffer ≡ old ++ front → StopsAfter buffer len → new ≡ take len buffer → used ≡ len - length old → IsCompleted old new piece used
completed_some old front piece buffer new len used p f b s n u =
    let t : StopsAfter (old ++ front) len = rw b at s in
    let past : length old < len = longer old front len p t in
    let long : length front ≡ min (min (length piece) 257) (length piece) = ap length f ∙ length-take (min (length piece) 257) piece in
    let whole : length (old ++ front) ≡ length old + length front = length-append old front in
    let few : used ≤ min (length piece) 257 = omega (arith, t.within) in
    let sum : len ≡ length old + used = omega arith in
    record {
      within = omega arith;
      added = n ∙ ap (λ (k : ℕ). take k buffer) sum ∙ ap (take (length old + used)) b ∙ take-append-add old front used
          ∙ ap (λ (x : List ℕ). old ++ x) (ap (take used) f ∙ take-take used (min (length piece) 257) piece few);
      stops = rw n s.stops;
    }

pub short : (old front piece buffer : List ℕ) → length old ≢ 0 → front ≡ take (min (length piece) 257) piece → buffer ≡ old ++ front → IsPartOfFrame buffer → IsShortOfFrame old buffer piece
short old front piece buffer z f b p =
    let long : length front ≡ min (min (length piece) 257) (length piece) = ap length f ∙ length-take (min (length piece) 257) piece in
    let all : min (length piece) 257 ≡ length piece = omega (arith, part_few buffer p, ap length b, length-append old front) in
    record {
      added = b ∙ ap (λ (x : List ℕ). old ++ x) (f ∙ ap (λ (k : ℕ). take k piece) all ∙ take-length piece);
      part = p;
    }
