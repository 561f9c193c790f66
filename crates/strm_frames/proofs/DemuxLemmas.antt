-- A piece is fed: to what was fed before it adds itself.
use Rattle.std.proofs.Common.{Some, Vec, Global, map, zero, suc, ◌≡◌, ◌≢◌, true, false, Bool, ◌||◌, ℕ, ◌+◌, ◌<◌, List, [], ◌∷◌, ◌++◌, length, take, drop, get_or, set, refl, sym, ap, ◌∙◌, arith, inl, inr, length-append}
use Rattle.std.proofs.lemmas.Bool.Decides.{eqb_tells}
use Rattle.std.proofs.lemmas.List.{append-nil, append_assoc, get_or-set_same, get_or-set_other, length-set, take_at, drop_at, take-append-drop}
use Rattle.std.proofs.lemmas.List.Concat.{flat_map-append}
use Rattle.strm_frames.specs.Frames.{Frame, Data, End, lane_named, spelled, encoding, part_for, is_end_of, ends, AreFramesAfter}
use Rattle.strm_frames.specs.Streams.{IsPartOfFrame, place_told, IsFrameFault, Faults}
use Rattle.strm_frames.specs.Demuxes.{LanesHeard, IsDemuxFed, are_unset, error_of}
use Rattle.strm_frames.specs.Fronts.{Whole, front_of}
use Rattle.strm_frames.specs.Taking.{flagged, flags_after, AreAllowed, AreEach, IsFlagged, Surveys, SurveysFault, IsHalted, Appends}
use Rattle.strm_frames.specs.declared.errors.Fault.{Fault}
use Rattle.strm_frames.specs.declared.errors.Fault.TheVariants.{BadKind, EmptyFrame, AfterEnd}
use Rattle.strm_frames.specs.declared.errors.MuxError.{MuxError}
use Rattle.strm_frames.specs.declared.errors.MuxError.TheVariants as errors
use Rattle.strm_frames.proofs.ReadingLemmas.{apart, one_fault}
use Rattle.std.specs.Prelude.{OnOk, Result, Ok, Err, None, ◌⊎◌}
use Rattle.strm_frames.proofs.FrontLemmas.{front-spelled, front-none}
use Rattle.strm_frames.proofs.TakingLemmas.{halts_part}

-- ONE LIST OF FRAMES

pub each_allowed : (flags : List Bool) (frames : List Frame) → AreAllowed flags frames → AreEach frames
unfolding AreAllowed AreEach
each_allowed flags [] a = tt
each_allowed flags (f ∷ fs) a = (a.0, a.1, each_allowed (flagged flags f) fs a.3)

-- whole frames with none behind them are one list
pub same_whole : (fs gs : List Frame) (r l : List ℕ) → encoding fs ++ r ≡ encoding gs ++ l → AreEach fs → AreEach gs → IsHalted r → IsHalted l → fs ≡ gs
unfolding AreEach
same_whole [] [] r l e a b p q = refl
same_whole [] (g ∷ gs) r l e a b p q =
    absurd (p.none g (encoding gs ++ l) (ap front_of (e ∙ append_assoc (spelled g) (encoding gs) l) ∙ front-spelled g (encoding gs ++ l) b.0))
same_whole (f ∷ fs) [] r l e a b p q =
    absurd (q.none f (encoding fs ++ r) (ap front_of (sym e ∙ append_assoc (spelled f) (encoding fs) r) ∙ front-spelled f (encoding fs ++ r) a.0))
same_whole (f ∷ fs) (g ∷ gs) r l e a b p q =
    let w : Whole f (encoding fs ++ r) ≡ Whole g (encoding gs ++ l) =
    sym (front-spelled f (encoding fs ++ r) a.0) ∙ ap front_of (sym (append_assoc (spelled f) (encoding fs) r) ∙ e ∙ append_assoc (spelled g) (encoding gs) l) ∙ front-spelled g (encoding gs ++ l) b.0 in
    let s : f ≡ g = cc in
    let t : encoding fs ++ r ≡ encoding gs ++ l = cc in
    let u : fs ≡ gs = same_whole fs gs r l t a.2 b.2 p q in
    cc

pub nothing_halts : IsHalted []
nothing_halts = halts_part [] (front-none [] refl)

pub same_spelled : (fs gs : List Frame) (b l : List ℕ) → b ≡ encoding fs → b ≡ encoding gs ++ l → AreEach fs → AreEach gs → IsHalted l → fs ≡ gs
same_spelled fs gs b l d e a c q = same_whole fs gs [] l (append-nil (encoding fs) ∙ sym d ∙ e) a c nothing_halts q

-- FLAGS

pub or_false : (b : Bool) → (b || false) ≡ b
or_false true = refl
or_false false = refl

pub ends_more : (lane : ℕ) (frames : List Frame) (f : Frame) → ends lane (frames ++ f ∷ []) ≡ (ends lane frames || is_end_of lane f)
unfolding ends
ends_more lane [] f = or_false (is_end_of lane f)
ends_more lane (g ∷ gs) f = along (is_end_of lane g) (ends lane (gs ++ f ∷ [])) (ends lane gs) (is_end_of lane f) (ends_more lane gs f)
  where
    along : (x y z w : Bool) → y ≡ (z || w) → (x || y) ≡ ((x || z) || w)
    along true y z w e = refl
    along false y z w e = e

-- flags tell which lanes ended
abbrev FlagsTell : List Bool → List Frame → Type 0
FlagsTell flags frames = (lane : ℕ) → lane < 256 → get_or flags lane false ≡ ends lane frames

pub tell_more : (flags : List Bool) (earlier : List Frame) (f : Frame) → length flags ≡ 256 → lane_named f < 256 → FlagsTell flags earlier → FlagsTell (flagged flags f) (earlier ++ f ∷ [])
tell_more flags earlier (Data l bytes) n b t = λ lane h. t lane h ∙ sym (ends_more lane earlier (Data l bytes) ∙ or_false (ends lane earlier))
tell_more flags earlier (End l) n b t = λ lane h.
    elim (eqb_tells l lane) [
      | inl y ↦ (let inside : l < length flags = omega arith in
          let one : get_or (set flags l true) lane false ≡ true = rw (← y.1) (get_or-set_same flags l true false inside) in
          one ∙ sym (ends_more lane earlier (End l) ∙ ended (ends lane earlier) (is_end_of lane (End l)) y.0))
      | inr y ↦ (let other : lane ≢ l = λ q. y.1 (sym q) in
          get_or-set_other flags l lane true false other ∙ t lane h ∙ sym (ends_more lane earlier (End l) ∙ unended (ends lane earlier) (is_end_of lane (End l)) y.0))
    ]
  where
    ended : (x y : Bool) → y ≡ true → (x || y) ≡ true
    ended true y e = refl
    ended false y e = e

    unended : (x y : Bool) → y ≡ false → (x || y) ≡ x
    unended x y e = rw e (or_false x)

length_flagged : (flags : List Bool) (f : Frame) → length flags ≡ 256 → length (flagged flags f) ≡ 256
length_flagged flags (Data l bytes) n = n
length_flagged flags (End l) n = length-set flags l true ∙ n

-- what flags allow may follow what they tell
record Follows (flags : List Bool) (earlier frames : List Frame) : Type 0 where
  pub are : AreFramesAfter earlier frames
  pub tell : FlagsTell (flags_after flags frames) (earlier ++ frames)

follows : (flags : List Bool) (earlier frames : List Frame) → length flags ≡ 256 → FlagsTell flags earlier → AreAllowed flags frames → Follows flags earlier frames
unfolding AreFramesAfter AreAllowed flags_after
follows flags earlier [] n t a = record { are = tt; tell = λ lane h. t lane h ∙ ap (ends lane) (sym (append-nil earlier)) }
follows flags earlier (f ∷ fs) n t a =
    let r = follows (flagged flags f) (earlier ++ f ∷ []) fs (length_flagged flags f n) (tell_more flags earlier f n a.1 t) a.3 in
    record {
      are = (a.0, sym (t (lane_named f) a.1) ∙ a.2, r.are);
      tell = λ lane h. r.tell lane h ∙ ap (ends lane) (append_assoc earlier (f ∷ []) fs);
    }

pub are_append : (earlier xs ys : List Frame) → AreFramesAfter earlier xs → AreFramesAfter (earlier ++ xs) ys → AreFramesAfter earlier (xs ++ ys)
unfolding AreFramesAfter
are_append earlier [] ys a b = rw append-nil at b
are_append earlier (x ∷ xs) ys a b =
    let c : AreFramesAfter ((earlier ++ x ∷ []) ++ xs) ys = rw append_assoc b in
    (a.0, a.1, are_append (earlier ++ x ∷ []) xs ys a.2 c)

-- A PIECE

pub spelling_append : (xs ys : List Frame) → encoding (xs ++ ys) ≡ encoding xs ++ encoding ys
spelling_append xs ys = flat_map-append spelled xs ys

-- the whole of what was fed
whole_of : (fs gs : List Frame) (bytes piece rest b left : List ℕ) → bytes ≡ encoding fs ++ rest → b ≡ rest ++ piece → b ≡ encoding gs ++ left → bytes ++ piece ≡ encoding (fs ++ gs) ++ left
whole_of fs gs bytes piece rest b left d e w =
    ap (λ (s : List ℕ). s ++ piece) d ∙ append_assoc (encoding fs) rest piece ∙ ap (λ (s : List ℕ). encoding fs ++ s) (sym e ∙ w)
    ∙ sym (append_assoc (encoding fs) (encoding gs) left) ∙ ap (λ (s : List ℕ). s ++ left) (sym (spelling_append fs gs))

place_on : (fs gs : List Frame) (place used : ℕ) → place ≡ place_told (length (encoding fs)) → used ≡ length (encoding gs) → place_told (place + used) ≡ place_told (length (encoding (fs ++ gs)))
place_on fs gs place used p u = omega (arith, p, u, ap length (spelling_append fs gs), length-append (encoding fs) (encoding gs))

-- so a piece is taken: the frames of the rest and the piece are allowed and put into the lanes, and what follows
-- them is the rest
pub record Takes (h k : LanesHeard) (piece : List ℕ) : Type 0 where
  pub bytes : List ℕ
  pub used : ℕ
  pub all : bytes ≡ h.rest ++ piece
  pub surveys : Surveys bytes h.ended k.ended used
  pub appends : Appends (take used bytes) h.lanes k.lanes
  pub left : k.rest ≡ drop used bytes
  pub place : k.place ≡ place_told (h.place + used)

fed_ok : (h k : LanesHeard) (bytes piece : List ℕ) → Takes h k piece → length h.ended ≡ 256 → IsDemuxFed h bytes → IsDemuxFed k (bytes ++ piece)
fed_ok h k bytes piece t n d =
    let fs = d.frames in
    let s = t.surveys in
    let a = t.appends in
    let gs = s.frames in
    let f = follows h.ended fs gs n d.ended s.allowed in
    let front : take t.used t.bytes ≡ encoding gs = ap (take t.used) s.whole ∙ take_at (encoding gs) s.left t.used (sym s.used_is) in
    let back : drop t.used t.bytes ≡ s.left = ap (drop t.used) s.whole ∙ drop_at (encoding gs) s.left t.used (sym s.used_is) in
    let same : gs ≡ a.frames = same_spelled gs a.frames (take t.used t.bytes) a.left front a.whole (each_allowed h.ended gs s.allowed) a.are a.halts in
    record {
      frames = fs ++ gs;
      splits = rw (t.left, back) (record {
        whole = whole_of fs gs bytes piece h.rest t.bytes s.left d.splits.whole t.all s.whole;
        are = are_append [] fs gs d.splits.are f.are;
        part = s.part;
      });
      lanes = λ lane l. a.extends.each lane l ∙ rw (d.lanes lane l, ← same) (sym (flat_map-append (part_for lane) fs gs));
      ended = λ lane l. ap (λ (x : List Bool). get_or x lane false) s.flags_are ∙ f.tell lane l;
      place = t.place ∙ place_on fs gs h.place t.used d.place s.used_is;
    }

-- a fault by flags is one by frames
fault_on : (fs gs : List Frame) (flags : List Bool) (place : ℕ) (next : List ℕ) (fault : Fault) → place ≡ place_told (length (encoding fs)) → FlagsTell flags (fs ++ gs) → IsFlagged flags (place + length (encoding gs)) next fault → IsFrameFault (fs ++ gs) (length (encoding (fs ++ gs))) next fault
fault_on fs gs flags place next (BadKind at) p t w = (w.0 ∙ place_on fs gs place (length (encoding gs)) p refl, w.1)
fault_on fs gs flags place next (EmptyFrame at) p t w = (w.0 ∙ place_on fs gs place (length (encoding gs)) p refl, w.1)
fault_on fs gs flags place next (AfterEnd at) p t w =
    let v = w.1 in
    (w.0 ∙ place_on fs gs place (length (encoding gs)) p refl, record { frame = v.frame; more = v.more; is = v.is; begins = v.begins; ended = sym (t (lane_named v.frame) v.below) ∙ v.flag })

fed_fault : (h : LanesHeard) (bytes piece b : List ℕ) (fault : Fault) → b ≡ h.rest ++ piece → SurveysFault b h.ended h.place fault → length h.ended ≡ 256 → IsDemuxFed h bytes → Faults (bytes ++ piece) fault
fed_fault h bytes piece b fault e s n d =
    let fs = d.frames in
    let gs = s.frames in
    let f = follows h.ended fs gs n d.ended s.allowed in
    record {
      frames = fs ++ gs;
      next = s.next;
      whole = whole_of fs gs bytes piece h.rest b s.next d.splits.whole e s.whole;
      are = are_append [] fs gs d.splits.are f.are;
      is = fault_on fs gs (flags_after h.ended gs) h.place s.next fault d.place f.tell s.is;
    }

same_error : (x y : Fault) → error_of x ≡ error_of y → x ≡ y
same_error (BadKind a) (BadKind b) e = cc
same_error (EmptyFrame a) (EmptyFrame b) e = cc
same_error (AfterEnd a) (AfterEnd b) e = cc
same_error (BadKind a) (EmptyFrame b) e = cc
same_error (BadKind a) (AfterEnd b) e = cc
same_error (EmptyFrame a) (BadKind b) e = cc
same_error (EmptyFrame a) (AfterEnd b) e = cc
same_error (AfterEnd a) (BadKind b) e = cc
same_error (AfterEnd a) (EmptyFrame b) e = cc

-- WHAT A FEED LEAVES

pub feeds_on : (h now k : LanesHeard) (piece : List ℕ) → h ≡ now → Takes h k piece → length h.ended ≡ 256 → (bytes : List ℕ) → IsDemuxFed now bytes → IsDemuxFed k (bytes ++ piece)
feeds_on h now k piece q t n = λ bytes d. fed_ok h k bytes piece t n (rw (← q) at d)

-- what was kept is less than a frame
pub left_part : (bytes rest : List ℕ) (flags after : List Bool) (used : ℕ) → Surveys bytes flags after used → rest ≡ drop used bytes → IsPartOfFrame rest
left_part bytes rest flags after used s e =
    let back : drop used bytes ≡ s.left = ap (drop used) s.whole ∙ drop_at (encoding s.frames) s.left used (sym s.used_is) in
    rw (e, back) s.part

-- the completed frame and what follows are the rest and the piece
pub both_all : (rest piece first more : List ℕ) (begun : ℕ) → first ≡ rest ++ take begun piece → more ≡ drop begun piece → first ++ more ≡ rest ++ piece
both_all rest piece first more begun e d =
    ap (λ (s : List ℕ). s ++ more) e ∙ append_assoc rest (take begun piece) more
    ∙ ap (λ (s : List ℕ). rest ++ s) (ap (λ (s : List ℕ). take begun piece ++ s) d ∙ take-append-drop begun piece)

-- where a fault was found
pub record FindsFault (h : LanesHeard) (piece rest : List ℕ) (found : Fault) : Type 0 where
  pub bytes : List ℕ
  pub all : bytes ≡ h.rest ++ piece
  pub surveys : SurveysFault bytes h.ended h.place found
  pub again : rest ≡ h.rest

-- and what it leaves
pub record LeavesFault (h now : LanesHeard) (piece rest : List ℕ) (found fault : Fault) : Type 0 where
  pub state : record h { rest = rest; fault = Some found } ≡ record now { fault = Some fault }
  pub faults : (bytes : List ℕ) → IsDemuxFed now bytes → Faults (bytes ++ piece) fault

pub fault_left : (h now : LanesHeard) (piece rest : List ℕ) (found fault : Fault) → h ≡ now → FindsFault h piece rest found → length h.ended ≡ 256 → error_of found ≡ error_of fault → LeavesFault h now piece rest found fault
fault_left h now piece rest found fault q w n e =
    let same : found ≡ fault = same_error found fault e in
    let again : rest ≡ h.rest = w.again in
    record {
      state = rw (again, same, q) refl;
      faults = λ bytes d. rw same at (fed_fault h bytes piece w.bytes found w.all w.surveys n (rw (← q) at d));
    }

-- NOTHING FED

pub nothing_part : IsPartOfFrame []
nothing_part = record { frame = End 0; more = 1 ∷ 0 ∷ []; is = tt; some = omega arith; begins = refl }

pub fed_nothing : (h : LanesHeard) → ((lane : ℕ) → lane < 256 → get_or h.lanes lane [] ≡ []) → ((lane : ℕ) → lane < 256 → get_or h.ended lane false ≡ false) → h.rest ≡ [] → h.place ≡ 0 → IsDemuxFed h []
unfolding AreFramesAfter ends
fed_nothing h l e r p = record {
  frames = [];
  splits = rw r (record { whole = refl; are = tt; part = nothing_part });
  lanes = l;
  ended = e;
  place = p;
}

pub unset : (flags : List Bool) → are_unset flags ≡ true → (lane : ℕ) → get_or flags lane false ≡ false
unset [] e lane = refl
unset (true ∷ more) e lane = cc
unset (false ∷ more) e zero = refl
unset (false ∷ more) e (suc lane) = unset more e lane

pub empties : (lanes : List (Vec ℕ Global)) → ((k : ℕ) (d : Vec ℕ Global) → k < length lanes → (get_or lanes k d).items ≡ []) → (lane : ℕ) → get_or (map (λ v. v.items) lanes) lane [] ≡ []
empties [] h lane = refl
empties (v ∷ vs) h zero = h 0 v (omega arith)
empties (v ∷ vs) h (suc lane) = empties vs (λ k d l. h (suc k) d (omega arith)) lane

-- what a feed answers
pub record Answers (old new : LanesHeard) (piece : List ℕ) (r : Result (Unit {0}) MuxError) : Type 0 where
  pub ok : OnOk r ((bytes : List ℕ) → IsDemuxFed old bytes → IsDemuxFed new (bytes ++ piece))
  pub fault : (fault : Fault) → old.fault ≡ None → r ≡ Err (error_of fault) → (new ≡ record old { fault = Some fault }) × ((bytes : List ℕ) → IsDemuxFed old bytes → Faults (bytes ++ piece) fault)
  pub known : (lane : ℕ) → r ≡ Err (errors.Ended lane) → ⊥

-- a fault that it found is the stream's
one_found : (old new : LanesHeard) (bytes piece : List ℕ) (found fault : Fault) → old.fault ≡ None → Answers old new piece (Err (error_of found)) → IsDemuxFed old bytes → Faults (bytes ++ piece) fault → found ≡ fault
one_found old new bytes piece found fault n a f w = one_fault (bytes ++ piece) found fault ((a.fault found n refl).1 bytes f) w

-- a fault that the stream has is answered, but for running out of memory
pub faults_exactly : (old new : LanesHeard) (piece : List ℕ) (r : Result (Unit {0}) MuxError) → Answers old new piece r → (bytes : List ℕ) (fault : Fault) → old.fault ≡ None → IsDemuxFed old bytes → Faults (bytes ++ piece) fault → (r ≡ Err (error_of fault)) ⊎ (r ≡ Err errors.OutOfMemory)
faults_exactly old new piece (Ok u) a bytes fault n f w =
    let g = a.ok bytes f in
    absurd (apart (bytes ++ piece) g.frames new.rest fault g.splits w)
faults_exactly old new piece (Err (errors.Ended lane)) a bytes fault n f w = absurd (a.known lane refl)
faults_exactly old new piece (Err (errors.BadKind at)) a bytes fault n f w =
    let s = one_found old new bytes piece (BadKind at) fault n a f w in inl (rw (← s) refl)
faults_exactly old new piece (Err (errors.EmptyFrame at)) a bytes fault n f w =
    let s = one_found old new bytes piece (EmptyFrame at) fault n a f w in inl (rw (← s) refl)
faults_exactly old new piece (Err (errors.AfterEnd at)) a bytes fault n f w =
    let s = one_found old new bytes piece (AfterEnd at) fault n a f w in inl (rw (← s) refl)
faults_exactly old new piece (Err errors.OutOfMemory) a bytes fault n f w = inr refl
