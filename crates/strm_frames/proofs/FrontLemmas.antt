-- What stands at the front of bytes, against the grammar of frames.
use Rattle.std.proofs.Common.{ltb, ◌⊎◌, ◌≡◌, ◌≢◌, true, false, ℕ, ◌-◌, ◌<◌, ◌≤◌, List, [], ◌∷◌, ◌++◌, length, take, drop, get_or, replicate, refl, sym, ap, ◌∙◌, arith, inl, inr, length-append}
use Rattle.std.proofs.lemmas.Bool.Decides.{eqb_tells}
use Rattle.std.proofs.lemmas.Bool.{ne_eqb, le-ltb, lt-ltb, cases_lt}
use Rattle.std.proofs.lemmas.List.{take_at, drop_at, take-append-drop, length-replicate, length-take-le}
use Rattle.strm_frames.specs.Frames.{Frame, Data, End, lane_named, spelled, IsFrame}
use Rattle.strm_frames.specs.Streams.{IsPartOfFrame, HasBadKind, HasNoBytes}
use Rattle.strm_frames.specs.Fronts.{Whole, Part, Other, Empty, data_at, end_at, front_of, HasKind}

ltb_tells : (a b : ℕ) → ((ltb a b ≡ true) × (a < b)) ⊎ ((ltb a b ≡ false) × (b ≤ a))
ltb_tells a b = elim (cases_lt a b) [ inl l ↦ inl (lt-ltb a b l, l) | inr g ↦ inr (le-ltb a b g, g) ]

-- all are bytes
abbrev pub IsBytes : List ℕ → Type 0
IsBytes bytes = (i : ℕ) → get_or bytes i 0 < 256

-- BY WHAT STANDS THERE

pub front-none : (b : List ℕ) → length b ≡ 0 → Part ≡ front_of b
unfolding front_of
front-none [] l = refl
front-none (k ∷ b) l = absurd (omega arith)

pub front-short : (b : List ℕ) → HasKind 0 b → length b < 3 → Part ≡ front_of b
unfolding front_of
front-short [] h l = absurd h
front-short (k ∷ []) h l = rw h refl
front-short (k ∷ x ∷ []) h l = rw h refl
front-short (k ∷ x ∷ n ∷ r) h l = absurd (omega arith)

pub front-no_bytes : (b head : List ℕ) → HasKind 0 b → 3 ≤ length b → head ≡ take 3 b → get_or head 2 0 ≡ 0 → Empty ≡ front_of b
unfolding front_of
front-no_bytes [] head h l e z = absurd h
front-no_bytes (k ∷ []) head h l e z = absurd (omega arith)
front-no_bytes (k ∷ x ∷ []) head h l e z = absurd (omega arith)
front-no_bytes (k ∷ x ∷ n ∷ r) head h l e z =
    let n0 : n ≡ 0 = sym (ap (λ (s : List ℕ). get_or s 2 0) e) ∙ z in
    rw (h, n0) refl

pub front-few : (b head rest : List ℕ) → HasKind 0 b → 3 ≤ length b → head ≡ take 3 b → rest ≡ drop 3 b → get_or head 2 0 ≢ 0 → length rest < get_or head 2 0 → Part ≡ front_of b
unfolding front_of
front-few [] head rest h l e d z m = absurd h
front-few (k ∷ []) head rest h l e d z m = absurd (omega arith)
front-few (k ∷ x ∷ []) head rest h l e d z m = absurd (omega arith)
front-few (k ∷ x ∷ n ∷ r) head rest h l e d z m =
    let n0 : get_or head 2 0 ≡ n = ap (λ (s : List ℕ). get_or s 2 0) e in
    let few : length r < n = omega (arith, ap length d) in
    let no : n ≢ 0 = λ q. z (n0 ∙ q) in
    rw (h, ne_eqb n 0 no, lt-ltb (length r) n few) refl

pub front-data : (b head rest body more : List ℕ) → HasKind 0 b → 3 ≤ length b → head ≡ take 3 b → rest ≡ drop 3 b → get_or head 2 0 ≢ 0 → get_or head 2 0 ≤ length rest → body ≡ take (get_or head 2 0) rest → more ≡ drop (get_or head 2 0) rest → Whole (Data (get_or head 1 0) body) more ≡ front_of b
unfolding front_of
front-data [] head rest body more h l e d z m f g = absurd h
front-data (k ∷ []) head rest body more h l e d z m f g = absurd (omega arith)
front-data (k ∷ x ∷ []) head rest body more h l e d z m f g = absurd (omega arith)
front-data (k ∷ x ∷ n ∷ r) head rest body more h l e d z m f g =
    let n0 : get_or head 2 0 ≡ n = ap (λ (s : List ℕ). get_or s 2 0) e in
    let x0 : get_or head 1 0 ≡ x = ap (λ (s : List ℕ). get_or s 1 0) e in
    let enough : n ≤ length r = omega (arith, ap length d) in
    let no : n ≢ 0 = λ q. z (n0 ∙ q) in
    rw (f, g, n0, x0, d, h, ne_eqb n 0 no, le-ltb (length r) n enough) refl

pub front-end_short : (b : List ℕ) → HasKind 1 b → length b < 2 → Part ≡ front_of b
unfolding front_of
front-end_short [] h l = absurd h
front-end_short (k ∷ []) h l = rw h refl
front-end_short (k ∷ x ∷ r) h l = absurd (omega arith)

pub front-end : (b head more : List ℕ) → HasKind 1 b → 2 ≤ length b → head ≡ take 2 b → more ≡ drop 2 b → Whole (End (get_or head 1 0)) more ≡ front_of b
unfolding front_of
front-end [] head more h l e d = absurd h
front-end (k ∷ []) head more h l e d = absurd (omega arith)
front-end (k ∷ x ∷ r) head more h l e d =
    let x0 : get_or head 1 0 ≡ x = ap (λ (s : List ℕ). get_or s 1 0) e in
    rw (x0, d, h) refl

pub front-other : (b : List ℕ) → HasBadKind b → front_of b ≡ Other
unfolding front_of
front-other [] h = absurd h
front-other (k ∷ b) h = rw (ne_eqb k 0 h.0, ne_eqb k 1 h.1) refl

pub front-empty : (b : List ℕ) → HasNoBytes b → front_of b ≡ Empty
unfolding front_of
front-empty [] h = absurd h
front-empty (k ∷ []) h = absurd h
front-empty (k ∷ x ∷ []) h = absurd h
front-empty (k ∷ x ∷ n ∷ r) h = rw (h.0, h.1) refl

-- FROM THE GRAMMAR

-- a frame that stands there is found
pub front-spelled : (f : Frame) (more : List ℕ) → IsFrame f → front_of (spelled f ++ more) ≡ Whole f more
unfolding front_of
front-spelled (Data l bytes) more h =
    let no : length bytes ≢ 0 = omega arith in
    let enough : length bytes ≤ length (bytes ++ more) = omega (arith, length-append bytes more) in
    rw (ne_eqb (length bytes) 0 no, le-ltb (length (bytes ++ more)) (length bytes) enough, take_at bytes more (length bytes) refl, drop_at bytes more (length bytes) refl) refl
front-spelled (End l) more h = refl

-- and a proper prefix of one is less than one
front-part_of : (f : Frame) (b more : List ℕ) → IsFrame f → 0 < length more → spelled f ≡ b ++ more → front_of b ≡ Part
unfolding front_of
front-part_of f [] more h s e = refl
front-part_of (Data l bytes) (k ∷ []) more h s e = let z : k ≡ 0 = cc in rw z refl
front-part_of (Data l bytes) (k ∷ x ∷ []) more h s e = let z : k ≡ 0 = cc in rw z refl
front-part_of (Data l bytes) (k ∷ x ∷ n ∷ r) more h s e =
    let z : k ≡ 0 = cc in
    let m : n ≡ length bytes = cc in
    let t : bytes ≡ r ++ more = cc in
    let no : n ≢ 0 = omega arith in
    let few : length r < n = omega (arith, ap length t, length-append r more) in
    rw (z, ne_eqb n 0 no, lt-ltb (length r) n few) refl
front-part_of (End l) (k ∷ []) more h s e = let z : k ≡ 1 = cc in rw z refl
front-part_of (End l) (k ∷ x ∷ r) more h s e =
    let t : [] ≡ r ++ more = cc in
    absurd (omega (arith, ap length t, length-append r more))

pub front-part : (b : List ℕ) → IsPartOfFrame b → front_of b ≡ Part
front-part b p = front-part_of p.frame b p.more p.is p.some p.begins

-- TO THE GRAMMAR

pub whole_sound : (b : List ℕ) (f : Frame) (more : List ℕ) → IsBytes b → Whole f more ≡ front_of b → (b ≡ spelled f ++ more) × IsFrame f × (lane_named f < 256)
unfolding front_of
whole_sound [] f more t e = cc
whole_sound (k ∷ b) f more t e =
    elim (eqb_tells k 0) [
      | inl z ↦ data_sound k z.1 b f more t (rw z.0 at e)
      | inr z ↦ elim (eqb_tells k 1) [
        | inl o ↦ end_sound k o.1 b f more t (rw (z.0, o.0) at e)
        | inr o ↦ (let q = rw (z.0, o.0) at e in cc)
      ]
    ]
  where
    data_sound : (k : ℕ) → k ≡ 0 → (b : List ℕ) (f : Frame) (more : List ℕ) → IsBytes (k ∷ b) → Whole f more ≡ data_at b → (k ∷ b ≡ spelled f ++ more) × IsFrame f × (lane_named f < 256)
    data_sound k z [] f more t e = cc
    data_sound k z (l ∷ []) f more t e = cc
    data_sound k z (l ∷ n ∷ r) f more t e =
        elim (eqb_tells n 0) [
          | inl y ↦ (let q = rw y.0 at e in cc)
          | inr y ↦ elim (ltb_tells (length r) n) [
            | inl w ↦ (let q = rw (y.0, w.0) at e in cc)
            | inr w ↦ (
                let q = rw (y.0, w.0) at e in
                let have : length (take n r) ≡ n = length-take-le n r (omega arith) in
                let ff : f ≡ Data l (take n r) = cc in
                let mm : more ≡ drop n r = cc in
                rw (ff, mm, z, have, take-append-drop n r) (refl, (omega (arith, have), omega (arith, have, t 2)), t 1))
          ]
        ]

    end_sound : (k : ℕ) → k ≡ 1 → (b : List ℕ) (f : Frame) (more : List ℕ) → IsBytes (k ∷ b) → Whole f more ≡ end_at b → (k ∷ b ≡ spelled f ++ more) × IsFrame f × (lane_named f < 256)
    end_sound k z [] f more t e = cc
    end_sound k z (l ∷ r) f more t e =
        let ff : f ≡ End l = cc in
        let mm : more ≡ r = cc in
        rw (ff, mm, z) (refl, tt, t 1)

-- less than a frame
pub part_sound : (b : List ℕ) → IsBytes b → Part ≡ front_of b → IsPartOfFrame b
unfolding front_of
part_sound [] t e = record { frame = End 0; more = 1 ∷ 0 ∷ []; is = tt; some = omega arith; begins = refl }
part_sound (k ∷ b) t e =
    elim (eqb_tells k 0) [
      | inl z ↦ data_part k z.1 b t (rw z.0 at e)
      | inr z ↦ elim (eqb_tells k 1) [
        | inl o ↦ end_part k o.1 b t (rw (z.0, o.0) at e)
        | inr o ↦ (let q = rw (z.0, o.0) at e in cc)
      ]
    ]
  where
    data_part : (k : ℕ) → k ≡ 0 → (b : List ℕ) → IsBytes (k ∷ b) → Part ≡ data_at b → IsPartOfFrame (k ∷ b)
    data_part k z [] t e = record { frame = Data 0 (0 ∷ []); more = 0 ∷ 1 ∷ 0 ∷ []; is = (omega arith, omega arith); some = omega arith; begins = rw z refl }
    data_part k z (l ∷ []) t e = record { frame = Data l (0 ∷ []); more = 1 ∷ 0 ∷ []; is = (omega arith, omega arith); some = omega arith; begins = rw z refl }
    data_part k z (l ∷ n ∷ r) t e =
        elim (eqb_tells n 0) [
          | inl y ↦ (let q = rw y.0 at e in cc)
          | inr y ↦ elim (ltb_tells (length r) n) [
            | inl w ↦ (
                let pad : List ℕ = replicate (n - length r) 0 in
                let len : length pad ≡ n - length r = length-replicate (n - length r) 0 in
                let all : length (r ++ pad) ≡ n = omega (arith, length-append r pad) in
                record { frame = Data l (r ++ pad); more = pad; is = (omega arith, omega (arith, all, t 2)); some = omega arith; begins = rw (z, all) refl })
            | inr w ↦ (let q = rw (y.0, w.0) at e in cc)
          ]
        ]

    end_part : (k : ℕ) → k ≡ 1 → (b : List ℕ) → IsBytes (k ∷ b) → Part ≡ end_at b → IsPartOfFrame (k ∷ b)
    end_part k z [] t e = record { frame = End 0; more = 0 ∷ []; is = tt; some = omega arith; begins = rw z refl }
    end_part k z (l ∷ r) t e = cc

pub other_sound : (b : List ℕ) → Other ≡ front_of b → HasBadKind b
unfolding front_of
other_sound [] e = cc
other_sound (k ∷ b) e =
    elim (eqb_tells k 0) [
      | inl z ↦ absurd (no_data b (rw z.0 at e))
      | inr z ↦ elim (eqb_tells k 1) [
        | inl o ↦ absurd (no_end b (rw (z.0, o.0) at e))
        | inr o ↦ (z.1, o.1)
      ]
    ]
  where
    no_data : (b : List ℕ) → Other ≡ data_at b → ⊥
    no_data [] e = cc
    no_data (l ∷ []) e = cc
    no_data (l ∷ n ∷ r) e =
        elim (eqb_tells n 0) [
          | inl y ↦ (let q = rw y.0 at e in cc)
          | inr y ↦ elim (ltb_tells (length r) n) [
            | inl w ↦ (let q = rw (y.0, w.0) at e in cc)
            | inr w ↦ (let q = rw (y.0, w.0) at e in cc)
          ]
        ]

    no_end : (b : List ℕ) → Other ≡ end_at b → ⊥
    no_end [] e = cc
    no_end (l ∷ r) e = cc

pub empty_sound : (b : List ℕ) → Empty ≡ front_of b → HasNoBytes b
unfolding front_of
empty_sound [] e = cc
empty_sound (k ∷ b) e =
    elim (eqb_tells k 0) [
      | inl z ↦ no_bytes k z.1 b (rw z.0 at e)
      | inr z ↦ elim (eqb_tells k 1) [
        | inl o ↦ absurd (no_end b (rw (z.0, o.0) at e))
        | inr o ↦ (let q = rw (z.0, o.0) at e in cc)
      ]
    ]
  where
    no_bytes : (k : ℕ) → k ≡ 0 → (b : List ℕ) → Empty ≡ data_at b → HasNoBytes (k ∷ b)
    no_bytes k z [] e = cc
    no_bytes k z (l ∷ []) e = cc
    no_bytes k z (l ∷ n ∷ r) e =
        elim (eqb_tells n 0) [
          | inl y ↦ (z, y.1)
          | inr y ↦ elim (ltb_tells (length r) n) [
            | inl w ↦ (let q = rw (y.0, w.0) at e in cc)
            | inr w ↦ (let q = rw (y.0, w.0) at e in cc)
          ]
        ]

    no_end : (b : List ℕ) → Empty ≡ end_at b → ⊥
    no_end [] e = cc
    no_end (l ∷ r) e = cc

pub front-neither : (b : List ℕ) → length b ≢ 0 → get_or b 0 0 ≢ 0 → get_or b 0 0 ≢ 1 → Other ≡ front_of b
unfolding front_of
front-neither [] l z o = absurd (l refl)
front-neither (k ∷ b) l z o = rw (ne_eqb k 0 z, ne_eqb k 1 o) refl
