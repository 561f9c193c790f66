-- One frame more of a piece: surveyed, put into its lane, counted.
use Rattle.std.proofs.Common.{◌≡◌, ◌≢◌, true, false, Bool, ℕ, ◌+◌, ◌-◌, ◌<◌, ◌≤◌, List, [], ◌∷◌, ◌++◌, length, refl, sym, ap, ◌∙◌, arith, inl, inr, get_or, set, take, subst, eqb, length-append}
use Rattle.std.proofs.lemmas.Bool.Decides.{eqb_tells}
use Rattle.std.proofs.lemmas.Bool.{cases_eq}
use Rattle.std.proofs.lemmas.List.{append-nil, append_assoc, get_or-set_same, get_or-set_other, length-set, get_or-append-add}
use Rattle.std.proofs.lemmas.List.Concat.{flat_map-append}
use Rattle.strm_frames.specs.Frames.{Frame, Data, End, lane_named, spelled, IsFrame, encoding, part_for, lane_in}
use Rattle.strm_frames.specs.Streams.{place_told}
use Rattle.strm_frames.specs.Fronts.{Whole, Part, Other, Empty, front_of}
use Rattle.strm_frames.specs.Taking.{flagged, flags_after, AreAllowed, AreEach, Surveys, SurveysFault, ExtendsLanes, IsHalted, Appends, AppendsSome, Counts, Retracts}
use Rattle.strm_frames.specs.declared.errors.Fault.TheVariants.{BadKind, EmptyFrame, AfterEnd}
use Rattle.strm_frames.proofs.FrontLemmas.{IsBytes, whole_sound, other_sound, empty_sound, part_sound}

-- LISTS OF FRAMES

pub spelling_more : (frames : List Frame) (f : Frame) (bytes rest more : List ℕ) → bytes ≡ encoding frames ++ rest → rest ≡ spelled f ++ more → bytes ≡ encoding (frames ++ f ∷ []) ++ more
spelling_more frames f bytes rest more e d =
    let one : encoding (frames ++ f ∷ []) ≡ encoding frames ++ spelled f = flat_map-append spelled frames (f ∷ []) ∙ ap (λ (s : List ℕ). encoding frames ++ s) (append-nil (spelled f)) in
    e ∙ ap (λ (s : List ℕ). encoding frames ++ s) d ∙ sym (append_assoc (encoding frames) (spelled f) more) ∙ ap (λ (s : List ℕ). s ++ more) (sym one)

pub length_more : (frames : List Frame) (f : Frame) → length (encoding (frames ++ f ∷ [])) ≡ length (encoding frames) + length (spelled f)
length_more frames f =
    let one : encoding (frames ++ f ∷ []) ≡ encoding frames ++ spelled f = flat_map-append spelled frames (f ∷ []) ∙ ap (λ (s : List ℕ). encoding frames ++ s) (append-nil (spelled f)) in
    ap length one ∙ length-append (encoding frames) (spelled f)

pub lane_more : (lane : ℕ) (frames : List Frame) (f : Frame) → lane_in lane (frames ++ f ∷ []) ≡ lane_in lane frames ++ part_for lane f
lane_more lane frames f = flat_map-append (part_for lane) frames (f ∷ []) ∙ ap (λ (s : List ℕ). lane_in lane frames ++ s) (append-nil (part_for lane f))

pub each_more : (frames : List Frame) (f : Frame) → AreEach frames → IsFrame f → lane_named f < 256 → AreEach (frames ++ f ∷ [])
unfolding AreEach
each_more [] f a h n = (h, n, tt)
each_more (g ∷ gs) f a h n = (a.0, a.1, each_more gs f a.2 h n)

-- ONE FRAME MORE

pub rest_bytes : (bytes front rest : List ℕ) → IsBytes bytes → bytes ≡ front ++ rest → IsBytes rest
rest_bytes bytes front rest t e = λ i. omega (arith, t (length front + i), ap (λ (s : List ℕ). get_or s (length front + i) 0) e, get_or-append-add front rest i 0)

-- it is shorter
pub shorter : (f : Frame) (bytes front rest more : List ℕ) → IsBytes bytes → bytes ≡ front ++ rest → Whole f more ≡ front_of rest → length more < length rest
shorter f bytes front rest more t w e = by_frame f rest more (whole_sound rest f more (rest_bytes bytes front rest t w) e).0
  where
    by_frame : (f : Frame) (rest more : List ℕ) → rest ≡ spelled f ++ more → length more < length rest
    by_frame (Data l bytes) rest more e = omega (arith, ap length e, length-append bytes more)
    by_frame (End l) rest more e = omega (arith, ap length e)

-- the frames so far
pub record CountsSoFar (bytes rest : List ℕ) (lane count : ℕ) : Type 0 where
  pub frames : List Frame
  pub whole : bytes ≡ encoding frames ++ rest
  pub are : AreEach frames
  pub count_is : count ≡ length (lane_in lane frames)

pub counts_none : (bytes : List ℕ) (lane : ℕ) → CountsSoFar bytes bytes lane 0
unfolding AreEach
counts_none bytes lane = record { frames = []; whole = refl; are = tt; count_is = refl }

pub counts_more : (bytes rest more : List ℕ) (lane count total : ℕ) (f : Frame) → IsBytes bytes → CountsSoFar bytes rest lane count → Whole f more ≡ front_of rest → total ≡ count + length (part_for lane f) → CountsSoFar bytes more lane total
counts_more bytes rest more lane count total f t a e n =
    let s = whole_sound rest f more (rest_bytes bytes (encoding a.frames) rest t a.whole) e in
    record {
      frames = a.frames ++ f ∷ [];
      whole = spelling_more a.frames f bytes rest more a.whole s.0;
      are = each_more a.frames f a.are s.1 s.2;
      count_is = n ∙ ap (λ (k : ℕ). k + length (part_for lane f)) a.count_is ∙ sym (ap length (lane_more lane a.frames f) ∙ length-append (lane_in lane a.frames) (part_for lane f));
    }

pub counts_data : (bytes rest more d : List ℕ) (lane count total l : ℕ) → IsBytes bytes → CountsSoFar bytes rest lane count → Whole (Data l d) more ≡ front_of rest → l ≡ lane → total ≡ count + length d → CountsSoFar bytes more lane total
counts_data bytes rest more d lane count total l t a e q n =
    counts_more bytes rest more lane count total (Data l d) t a e (elim (eqb_tells l lane) [ inl y ↦ rw y.0 n | inr y ↦ absurd (y.1 q) ])

pub counts_other : (bytes rest more d : List ℕ) (lane count l : ℕ) → IsBytes bytes → CountsSoFar bytes rest lane count → Whole (Data l d) more ≡ front_of rest → l ≢ lane → CountsSoFar bytes more lane count
counts_other bytes rest more d lane count l t a e q =
    counts_more bytes rest more lane count count (Data l d) t a e (elim (eqb_tells l lane) [ inl y ↦ absurd (q y.1) | inr y ↦ rw y.0 (omega arith) ])

pub counts_end : (bytes rest more : List ℕ) (lane count l : ℕ) → IsBytes bytes → CountsSoFar bytes rest lane count → Whole (End l) more ≡ front_of rest → CountsSoFar bytes more lane count
counts_end bytes rest more lane count l t a e = counts_more bytes rest more lane count count (End l) t a e (omega arith)

lane_fits : (lane : ℕ) (frames : List Frame) → length (lane_in lane frames) ≤ length (encoding frames)
lane_fits lane [] = omega arith
lane_fits lane (f ∷ fs) = omega (arith, part_fits f, lane_fits lane fs, length-append (part_for lane f) (lane_in lane fs), length-append (spelled f) (encoding fs))
  where
    part_fits : (f : Frame) → length (part_for lane f) ≤ length (spelled f)
    part_fits (Data l bytes) = elim (eqb_tells l lane) [ inl y ↦ rw y.0 (omega arith) | inr y ↦ rw y.0 (omega arith) ]
    part_fits (End l) = omega arith

-- so many bytes are no more than all bytes
pub counts_fit : (bytes rest more d : List ℕ) (lane count l : ℕ) → IsBytes bytes → CountsSoFar bytes rest lane count → Whole (Data l d) more ≡ front_of rest → count + length d ≤ length bytes
counts_fit bytes rest more d lane count l t a e =
    let s = whole_sound rest (Data l d) more (rest_bytes bytes (encoding a.frames) rest t a.whole) e in
    omega (arith, a.count_is, lane_fits lane a.frames, ap length a.whole, length-append (encoding a.frames) rest, ap length s.0, length-append d more)

-- where no frame follows
pub halts_part : (b : List ℕ) → Part ≡ front_of b → IsHalted b
halts_part b e = record { none = λ f more q. let r : Part ≡ Whole f more = e ∙ q in cc }

pub halts_other : (b : List ℕ) → Other ≡ front_of b → IsHalted b
halts_other b e = record { none = λ f more q. let r : Other ≡ Whole f more = e ∙ q in cc }

pub halts_empty : (b : List ℕ) → Empty ≡ front_of b → IsHalted b
halts_empty b e = record { none = λ f more q. let r : Empty ≡ Whole f more = e ∙ q in cc }

pub counts_all : (bytes rest : List ℕ) (lane count : ℕ) → CountsSoFar bytes rest lane count → IsHalted rest → Counts bytes lane count
counts_all bytes rest lane count a h = record { frames = a.frames; left = rest; whole = a.whole; are = a.are; halts = h; count_is = a.count_is }

-- PUT INTO LANES

pub record AppendsSoFar (bytes rest : List ℕ) (old new : List (List ℕ)) : Type 0 where
  pub frames : List Frame
  pub whole : bytes ≡ encoding frames ++ rest
  pub are : AreEach frames
  pub extends : ExtendsLanes old new frames

pub appends_none : (bytes : List ℕ) (lanes : List (List ℕ)) → AppendsSoFar bytes bytes lanes lanes
unfolding AreEach
appends_none bytes lanes = record { frames = []; whole = refl; are = tt; extends = record { same = refl; each = λ k h. sym (append-nil (get_or lanes k [])) } }

pub extends_data : (old now new : List (List ℕ)) (frames : List Frame) (l : ℕ) (d : List ℕ) → ExtendsLanes old now frames → l < length now → new ≡ set now l (get_or now l [] ++ d) → ExtendsLanes old new (frames ++ Data l d ∷ [])
extends_data old now new frames l d a h e = record {
  same = ap length e ∙ length-set now l (get_or now l [] ++ d) ∙ a.same;
  each = λ k below. elim (eqb_tells l k) [
    | inl y ↦ same_lane k y.1 y.0 below
    | inr y ↦ other_lane k (λ q. y.1 (sym q)) y.0 below
  ];
}
  where
    same_lane : (k : ℕ) → l ≡ k → eqb l k ≡ true → k < 256 → get_or new k [] ≡ get_or old k [] ++ lane_in k (frames ++ Data l d ∷ [])
    same_lane k q t below =
        let here : get_or new k [] ≡ get_or now k [] ++ d = ap (λ (s : List (List ℕ)). get_or s k []) e ∙ rw (← q) (get_or-set_same now l (get_or now l [] ++ d) [] h) in
        let part : part_for k (Data l d) ≡ d = rw t refl in
        here ∙ rw (a.each k below, lane_more k frames (Data l d), part) (append_assoc (get_or old k []) (lane_in k frames) d)

    other_lane : (k : ℕ) → k ≢ l → eqb l k ≡ false → k < 256 → get_or new k [] ≡ get_or old k [] ++ lane_in k (frames ++ Data l d ∷ [])
    other_lane k q t below =
        let here : get_or new k [] ≡ get_or now k [] = ap (λ (s : List (List ℕ)). get_or s k []) e ∙ get_or-set_other now l k (get_or now l [] ++ d) [] q in
        let part : part_for k (Data l d) ≡ [] = rw t refl in
        here ∙ rw (a.each k below, lane_more k frames (Data l d), part, append-nil (lane_in k frames)) refl

pub appends_data : (bytes rest more d : List ℕ) (old now new : List (List ℕ)) (l : ℕ) → IsBytes bytes → AppendsSoFar bytes rest old now → Whole (Data l d) more ≡ front_of rest → length now ≡ 256 → new ≡ set now l (get_or now l [] ++ d) → AppendsSoFar bytes more old new
appends_data bytes rest more d old now new l t a e h n =
    let s = whole_sound rest (Data l d) more (rest_bytes bytes (encoding a.frames) rest t a.whole) e in
    record {
      frames = a.frames ++ Data l d ∷ [];
      whole = spelling_more a.frames (Data l d) bytes rest more a.whole s.0;
      are = each_more a.frames (Data l d) a.are s.1 s.2;
      extends = extends_data old now new a.frames l d a.extends (let b : l < 256 = s.2 in omega arith) n;
    }

pub appends_end : (bytes rest more : List ℕ) (old now : List (List ℕ)) (l : ℕ) → IsBytes bytes → AppendsSoFar bytes rest old now → Whole (End l) more ≡ front_of rest → AppendsSoFar bytes more old now
appends_end bytes rest more old now l t a e =
    let s = whole_sound rest (End l) more (rest_bytes bytes (encoding a.frames) rest t a.whole) e in
    record {
      frames = a.frames ++ End l ∷ [];
      whole = spelling_more a.frames (End l) bytes rest more a.whole s.0;
      are = each_more a.frames (End l) a.are s.1 s.2;
      extends = record { same = a.extends.same; each = λ k below. a.extends.each k below ∙ ap (λ (x : List ℕ). get_or old k [] ++ x) (sym (lane_more k a.frames (End l) ∙ append-nil (lane_in k a.frames))) };
    }

pub appends_all : (bytes rest : List ℕ) (old new : List (List ℕ)) → AppendsSoFar bytes rest old new → IsHalted rest → Appends bytes old new
appends_all bytes rest old new a h = record { frames = a.frames; left = rest; whole = a.whole; are = a.are; halts = h; extends = a.extends }

pub appends_some : (bytes rest : List ℕ) (old new : List (List ℕ)) (done : ℕ) → length old ≡ 256 → AppendsSoFar bytes rest old new → done ≡ length bytes - length rest → AppendsSome bytes old new done
appends_some bytes rest old new done n a e = record {
  frames = a.frames;
  left = rest;
  whole = a.whole;
  are = a.are;
  done_is = omega (arith, ap length a.whole, length-append (encoding a.frames) rest);
  long = n;
  extends = a.extends;
}

-- SURVEYED

pub record SurveysSoFar (bytes rest : List ℕ) (flags now : List Bool) : Type 0 where
  pub frames : List Frame
  pub whole : bytes ≡ encoding frames ++ rest
  pub allowed : AreAllowed flags frames
  pub flags_are : now ≡ flags_after flags frames

pub surveys_none : (bytes : List ℕ) (flags : List Bool) → SurveysSoFar bytes bytes flags flags
unfolding AreAllowed flags_after
surveys_none bytes flags = record { frames = []; whole = refl; allowed = tt; flags_are = refl }

pub flags_more : (flags : List Bool) (frames : List Frame) (f : Frame) → flags_after flags (frames ++ f ∷ []) ≡ flagged (flags_after flags frames) f
unfolding flags_after
flags_more flags [] f = refl
flags_more flags (g ∷ gs) f = flags_more (flagged flags g) gs f

allowed_more : (flags : List Bool) (frames : List Frame) (f : Frame) → AreAllowed flags frames → IsFrame f → lane_named f < 256 → get_or (flags_after flags frames) (lane_named f) false ≡ false → AreAllowed flags (frames ++ f ∷ [])
unfolding AreAllowed flags_after
allowed_more flags [] f a h n z = (h, n, z, tt)
allowed_more flags (g ∷ gs) f a h n z = (a.0, a.1, a.2, allowed_more (flagged flags g) gs f a.3 h n z)

pub surveys_more : (bytes rest more : List ℕ) (flags now new : List Bool) (f : Frame) → IsBytes bytes → SurveysSoFar bytes rest flags now → Whole f more ≡ front_of rest → get_or now (lane_named f) false ≡ false → new ≡ flagged now f → SurveysSoFar bytes more flags new
surveys_more bytes rest more flags now new f t a e z n =
    let s = whole_sound rest f more (rest_bytes bytes (encoding a.frames) rest t a.whole) e in
    record {
      frames = a.frames ++ f ∷ [];
      whole = spelling_more a.frames f bytes rest more a.whole s.0;
      allowed = allowed_more flags a.frames f a.allowed s.1 s.2 (rw a.flags_are at z);
      flags_are = n ∙ ap (λ (b : List Bool). flagged b f) a.flags_are ∙ sym (flags_more flags a.frames f);
    }

pub surveys_all : (bytes rest : List ℕ) (flags now : List Bool) (used : ℕ) → IsBytes bytes → SurveysSoFar bytes rest flags now → Part ≡ front_of rest → used ≡ length bytes - length rest → Surveys bytes flags now used
surveys_all bytes rest flags now used t a p e = record {
  frames = a.frames;
  left = rest;
  whole = a.whole;
  used_is = omega (arith, ap length a.whole, length-append (encoding a.frames) rest);
  allowed = a.allowed;
  flags_are = a.flags_are;
  part = part_sound rest (rest_bytes bytes (encoding a.frames) rest t a.whole) p;
}

-- the place of what is left
abbrev pub IsAt : ℕ → List ℕ → List ℕ → ℕ → Type 0
IsAt place bytes rest at = at ≡ place_told (place + (length bytes - length rest))

place_of : (bytes rest : List ℕ) (frames : List Frame) (place at : ℕ) → bytes ≡ encoding frames ++ rest → at ≡ place_told (place + (length bytes - length rest)) → at ≡ place_told (place + length (encoding frames))
place_of bytes rest frames place at e n =
    let d : length bytes - length rest ≡ length (encoding frames) = omega (arith, ap length e, length-append (encoding frames) rest) in
    n ∙ ap (λ (k : ℕ). place_told (place + k)) d

pub survey_bad_kind : (bytes rest : List ℕ) (flags now : List Bool) (place at : ℕ) → SurveysSoFar bytes rest flags now → Other ≡ front_of rest → IsAt place bytes rest at → SurveysFault bytes flags place (BadKind at)
survey_bad_kind bytes rest flags now place at a e n = record { frames = a.frames; next = rest; whole = a.whole; allowed = a.allowed; is = (place_of bytes rest a.frames place at a.whole n, other_sound rest e) }

pub survey_empty : (bytes rest : List ℕ) (flags now : List Bool) (place at : ℕ) → SurveysSoFar bytes rest flags now → Empty ≡ front_of rest → IsAt place bytes rest at → SurveysFault bytes flags place (EmptyFrame at)
survey_empty bytes rest flags now place at a e n = record { frames = a.frames; next = rest; whole = a.whole; allowed = a.allowed; is = (place_of bytes rest a.frames place at a.whole n, empty_sound rest e) }

pub survey_after_end : (bytes rest more : List ℕ) (flags now : List Bool) (place at : ℕ) (f : Frame) → IsBytes bytes → SurveysSoFar bytes rest flags now → Whole f more ≡ front_of rest → get_or now (lane_named f) false ≡ true → IsAt place bytes rest at → SurveysFault bytes flags place (AfterEnd at)
survey_after_end bytes rest more flags now place at f t a e z n =
    let s = whole_sound rest f more (rest_bytes bytes (encoding a.frames) rest t a.whole) e in
    record {
      frames = a.frames;
      next = rest;
      whole = a.whole;
      allowed = a.allowed;
      is = (place_of bytes rest a.frames place at a.whole n, record { frame = f; more = more; is = s.1; below = s.2; begins = s.0; flag = rw a.flags_are at z });
    }

-- TAKEN OUT AGAIN

-- a lane has lost what frames had for it
abbrev pub IsCut : List ℕ → List (List ℕ) → List (List ℕ) → ℕ → Type 0
IsCut bytes old new lane = (count : ℕ) × Counts bytes lane count × (get_or new lane [] ≡ take (length (get_or old lane []) - count) (get_or old lane []))

-- the lanes below this one have, the others not yet
pub record RetractsSoFar (bytes : List ℕ) (old new : List (List ℕ)) (n : ℕ) : Type 0 where
  pub same : length new ≡ length old
  pub done : (k : ℕ) → k < n → IsCut bytes old new k
  pub left : (k : ℕ) → n ≤ k → get_or new k [] ≡ get_or old k []

pub retracts_none : (bytes : List ℕ) (old : List (List ℕ)) → RetractsSoFar bytes old old 0
retracts_none bytes old = record { same = refl; done = λ k h. absurd (omega arith); left = λ k h. refl }

pub retracts_more : (bytes : List ℕ) (old now new : List (List ℕ)) (n count : ℕ) → RetractsSoFar bytes old now n → n < length now → Counts bytes n count → new ≡ set now n (take (length (get_or now n []) - count) (get_or now n [])) → RetractsSoFar bytes old new (n + 1)
retracts_more bytes old now new n count a h t e =
    let d : List ℕ = take (length (get_or now n []) - count) (get_or now n []) in
    record {
      same = ap length e ∙ length-set now n d ∙ a.same;
      done = λ k l. elim (cases_eq k n) [
        | inl q ↦ (let P : ℕ → Type 0 = λ m. IsCut bytes old new m in subst P (sym q) (count, t, ap (λ (s : List (List ℕ)). get_or s n []) e ∙ get_or-set_same now n d [] h ∙ rw (a.left n (omega arith)) refl))
        | inr q ↦ (let c = a.done k (omega arith) in (c.0, c.1, ap (λ (s : List (List ℕ)). get_or s k []) e ∙ get_or-set_other now n k d [] q ∙ c.2))
      ];
      left = λ k l. let q : k ≢ n = omega arith in ap (λ (s : List (List ℕ)). get_or s k []) e ∙ get_or-set_other now n k d [] q ∙ a.left k (omega arith);
    }

pub retracts_all : (bytes : List ℕ) (old new : List (List ℕ)) → RetractsSoFar bytes old new 256 → Retracts bytes old new
retracts_all bytes old new a = record { same = a.same; each = a.done }
