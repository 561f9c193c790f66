-- What is put is cut into frames, which give it back.
use Rattle.std.proofs.Common.{◌≡◌, true, false, Bool, ◌||◌, ℕ, zero, suc, ◌<◌, ◌≤◌, List, [], ◌∷◌, ◌++◌, length, min, take, drop, get_or, set, refl, sym, ap, ◌∙◌, arith, inl, inr, length-take, length-drop}
use Rattle.std.specs.Prelude.{◌==◌, cond}
use Rattle.std.proofs.lemmas.Bool.Decides.{eqb_tells}
use Rattle.std.proofs.lemmas.List.{append-nil, append_assoc, take-append-drop, take_min, drop_min}
use Rattle.std.proofs.lemmas.List.Concat.{flat_map-append}
use Rattle.strm_frames.specs.Frames.{Frame, Data, End, spelled, encoding, part_for, lane_in, is_end_of, ends, AreFramesAfter}
use Rattle.strm_frames.specs.Demuxes.{are_unset}
use Rattle.strm_frames.specs.Muxes.{Written, pieces_in, pieces_of, MuxCarries, IsMux}
use Rattle.strm_frames.proofs.TakingLemmas.{lane_more}
use Rattle.strm_frames.proofs.DemuxLemmas.{or_false, ends_more, are_append, tell_more, unset}

-- PIECES

-- it doesn't matter how many pieces may come, if it's enough
enough : (n m lane : ℕ) (bytes : List ℕ) → length bytes ≤ n → length bytes ≤ m → pieces_in n lane bytes ≡ pieces_in m lane bytes
unfolding pieces_in
enough zero zero lane [] h k = refl
enough zero (suc m) lane [] h k = refl
enough (suc n) zero lane [] h k = refl
enough (suc n) (suc m) lane [] h k = refl
enough zero m lane (b ∷ bytes) h k = absurd (omega arith)
enough (suc n) zero lane (b ∷ bytes) h k = absurd (omega arith)
enough (suc n) (suc m) lane (b ∷ bytes) h k =
    ap (λ (fs : List Frame). Data lane (take 255 (b ∷ bytes)) ∷ fs)
    (enough n m lane (drop 255 (b ∷ bytes)) (omega (arith, length-drop 255 (b ∷ bytes))) (omega (arith, length-drop 255 (b ∷ bytes))))

pub pieces_none : (lane : ℕ) (bytes : List ℕ) → length bytes ≡ 0 → pieces_of lane bytes ≡ []
unfolding pieces_of pieces_in
pieces_none lane [] h = refl
pieces_none lane (b ∷ bytes) h = absurd (omega arith)

pub pieces_some : (lane : ℕ) (bytes : List ℕ) → 0 < length bytes → pieces_of lane bytes ≡ Data lane (take 255 bytes) ∷ pieces_of lane (drop 255 bytes)
unfolding pieces_of pieces_in
pieces_some lane [] h = absurd (omega arith)
pieces_some lane (b ∷ bytes) h =
    let r : List ℕ = drop 255 (b ∷ bytes) in
    ap (λ (fs : List Frame). Data lane (take 255 (b ∷ bytes)) ∷ fs)
    (enough (length bytes) (length r) lane r (omega (arith, length-drop 255 (b ∷ bytes))) (omega arith))

-- so much was written of them
pub record PushesSoFar (lane : ℕ) (bytes rest old now : List ℕ) : Type 0 where
  pub front : List ℕ
  pub now_is : now ≡ old ++ front
  pub goes_on : front ++ encoding (pieces_of lane rest) ≡ encoding (pieces_of lane bytes)
  pub left : length rest ≤ length bytes

pub pushes_none : (lane : ℕ) (bytes old : List ℕ) → PushesSoFar lane bytes bytes old old
pushes_none lane bytes old = record { front = []; now_is = sym (append-nil old); goes_on = refl; left = omega arith }

pub pushes_more : (lane : ℕ) (bytes rest piece more old now new : List ℕ) → 0 < length rest → piece ≡ take (min (length rest) 255) rest → more ≡ drop (min (length rest) 255) rest → PushesSoFar lane bytes rest old now → new ≡ now ++ spelled (Data lane piece) → PushesSoFar lane bytes more old new
pushes_more lane bytes rest piece more old now new h p q a n =
    let least : min (length rest) 255 ≡ min 255 (length rest) = omega arith in
    let pp : piece ≡ take 255 rest = p ∙ rw least (take_min 255 rest) in
    let qq : more ≡ drop 255 rest = q ∙ rw least (drop_min 255 rest) in
    record {
      front = a.front ++ spelled (Data lane piece);
      now_is = n ∙ ap (λ (s : List ℕ). s ++ spelled (Data lane piece)) a.now_is ∙ append_assoc old a.front (spelled (Data lane piece));
      goes_on = append_assoc a.front (spelled (Data lane piece)) (encoding (pieces_of lane more)) ∙ ap (λ (s : List ℕ). a.front ++ s) (rw (pp, qq) (ap encoding (sym (pieces_some lane rest h)))) ∙ a.goes_on;
      left = omega (arith, a.left, ap length q, length-drop (min (length rest) 255) rest);
    }

-- behind the last
pub pushes_all : (lane : ℕ) (bytes rest old now : List ℕ) → length rest ≡ 0 → PushesSoFar lane bytes rest old now → now ≡ old ++ encoding (pieces_of lane bytes)
pushes_all lane bytes rest old now h a =
    let none : encoding (pieces_of lane rest) ≡ [] = ap encoding (pieces_none lane rest h) in
    a.now_is ∙ ap (λ (s : List ℕ). old ++ s) (sym (append-nil a.front) ∙ ap (λ (s : List ℕ). a.front ++ s) (sym none) ∙ a.goes_on)

-- WHAT PIECES GIVE

lane_pieces : (n l lane : ℕ) (bytes : List ℕ) → length bytes ≤ n → lane_in lane (pieces_in n l bytes) ≡ part_for lane (Data l bytes)
unfolding pieces_in
lane_pieces zero l lane [] h = nothing (l == lane)
  where
    nothing : (b : Bool) → let none : List ℕ = [] in none ≡ cond b none none
    nothing true = refl
    nothing false = refl
lane_pieces (suc n) l lane [] h = nothing (l == lane)
  where
    nothing : (b : Bool) → let none : List ℕ = [] in none ≡ cond b none none
    nothing true = refl
    nothing false = refl
lane_pieces zero l lane (b ∷ bytes) h = absurd (omega arith)
lane_pieces (suc n) l lane (b ∷ bytes) h =
    let next = lane_pieces n l lane (drop 255 (b ∷ bytes)) (omega (arith, length-drop 255 (b ∷ bytes))) in
    elim (eqb_tells l lane) [
      | inl y ↦ ap (λ (s : List ℕ). part_for lane (Data l (take 255 (b ∷ bytes))) ++ s) next ∙ rw y.0 (take-append-drop 255 (b ∷ bytes))
      | inr y ↦ ap (λ (s : List ℕ). part_for lane (Data l (take 255 (b ∷ bytes))) ++ s) next ∙ rw y.0 refl
    ]

ends_pieces : (n l lane : ℕ) (bytes : List ℕ) → ends lane (pieces_in n l bytes) ≡ false
unfolding pieces_in ends
ends_pieces zero l lane bytes = refl
ends_pieces (suc n) l lane [] = refl
ends_pieces (suc n) l lane (b ∷ bytes) = ends_pieces n l lane (drop 255 (b ∷ bytes))

ends_append : (lane : ℕ) (xs ys : List Frame) → ends lane (xs ++ ys) ≡ (ends lane xs || ends lane ys)
unfolding ends
ends_append lane [] ys = refl
ends_append lane (x ∷ xs) ys = along (is_end_of lane x) (ends lane (xs ++ ys)) (ends lane xs) (ends lane ys) (ends_append lane xs ys)
  where
    along : (x y z w : Bool) → y ≡ (z || w) → (x || y) ≡ ((x || z) || w)
    along true y z w e = refl
    along false y z w e = e

are_pieces : (n l : ℕ) (earlier : List Frame) (bytes : List ℕ) → ends l earlier ≡ false → AreFramesAfter earlier (pieces_in n l bytes)
unfolding pieces_in AreFramesAfter
are_pieces zero l earlier bytes h = tt
are_pieces (suc n) l earlier [] h = tt
are_pieces (suc n) l earlier (b ∷ bytes) h =
    let p : List ℕ = take 255 (b ∷ bytes) in
    let long : length p ≡ min 255 (length (b ∷ bytes)) = length-take 255 (b ∷ bytes) in
    let open_yet : ends l (earlier ++ Data l p ∷ []) ≡ false = ends_more l earlier (Data l p) ∙ or_false (ends l earlier) ∙ h in
    ((omega (arith, long), omega (arith, long)), h, are_pieces n l (earlier ++ Data l p ∷ []) (drop 255 (b ∷ bytes)) open_yet)

pub carries_none : (written : Written) → written.bytes ≡ [] → are_unset written.ended ≡ true → MuxCarries written []
unfolding AreFramesAfter ends
carries_none written e u = record { frames = []; spelled = e; are = tt; lanes = λ lane. refl; ended = λ lane. refl; flags = λ lane h. unset written.ended u lane }

pub carries_put : (written new : Written) (given : List Frame) (l : ℕ) (bytes : List ℕ) → l < 256 → get_or written.ended l false ≡ false → new.bytes ≡ written.bytes ++ encoding (pieces_of l bytes) → new.ended ≡ written.ended → MuxCarries written given → MuxCarries new (given ++ Data l bytes ∷ [])
unfolding pieces_of
carries_put written new given l bytes b z e d c =
    let fs = c.frames in
    let gs = pieces_in (length bytes) l bytes in
    let open_yet : ends l fs ≡ false = c.ended l ∙ sym (c.flags l b) ∙ z in
    record {
      frames = fs ++ gs;
      spelled = e ∙ ap (λ (s : List ℕ). s ++ encoding gs) c.spelled ∙ sym (flat_map-append spelled fs gs);
      are = are_append [] fs gs c.are (are_pieces (length bytes) l fs bytes open_yet);
      lanes = λ lane. flat_map-append (part_for lane) fs gs ∙ rw (c.lanes lane, lane_pieces (length bytes) l lane bytes (omega arith)) (sym (lane_more lane given (Data l bytes)));
      ended = λ lane. ends_append lane fs gs ∙ rw (ends_pieces (length bytes) l lane bytes, c.ended lane) (sym (ends_more lane given (Data l bytes)));
      flags = λ lane h. ap (λ (x : List Bool). get_or x lane false) d ∙ c.flags lane h ∙ sym (ends_more lane given (Data l bytes) ∙ or_false (ends lane given));
    }

pub carries_end : (written new : Written) (given : List Frame) (l : ℕ) → l < 256 → length written.ended ≡ 256 → get_or written.ended l false ≡ false → new.bytes ≡ written.bytes ++ spelled (End l) → new.ended ≡ set written.ended l true → MuxCarries written given → MuxCarries new (given ++ End l ∷ [])
unfolding AreFramesAfter
carries_end written new given l b n z e d c =
    let fs = c.frames in
    let open_yet : ends l fs ≡ false = c.ended l ∙ sym (c.flags l b) ∙ z in
    record {
      frames = fs ++ End l ∷ [];
      spelled = e ∙ ap (λ (s : List ℕ). s ++ spelled (End l)) c.spelled ∙ sym (flat_map-append spelled fs (End l ∷ []));
      are = are_append [] fs (End l ∷ []) c.are (tt, open_yet, tt);
      lanes = λ lane. lane_more lane fs (End l) ∙ rw (c.lanes lane) (sym (lane_more lane given (End l)));
      ended = λ lane. ends_more lane fs (End l) ∙ rw (c.ended lane) (sym (ends_more lane given (End l)));
      flags = λ lane h. ap (λ (x : List Bool). get_or x lane false) d ∙ tell_more written.ended given (End l) n b c.flags lane h;
    }

-- THE INVARIANT

pub mux_none : (written : Written) → written.bytes ≡ [] → are_unset written.ended ≡ true → IsMux written
mux_none written e u = record { given = []; carries = carries_none written e u }

pub mux_put : (written new : Written) (l : ℕ) (bytes : List ℕ) → l < 256 → get_or written.ended l false ≡ false → new.bytes ≡ written.bytes ++ encoding (pieces_of l bytes) → new.ended ≡ written.ended → IsMux written → IsMux new
mux_put written new l bytes b z e d m = record { given = m.given ++ Data l bytes ∷ []; carries = carries_put written new m.given l bytes b z e d m.carries }

pub mux_end : (written new : Written) (l : ℕ) → l < 256 → length written.ended ≡ 256 → get_or written.ended l false ≡ false → new.bytes ≡ written.bytes ++ spelled (End l) → new.ended ≡ set written.ended l true → IsMux written → IsMux new
mux_end written new l b n z e d m = record { given = m.given ++ End l ∷ []; carries = carries_end written new m.given l b n z e d m.carries }
