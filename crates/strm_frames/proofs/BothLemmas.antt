-- Two pieces one after the other, of which the first stops at a frame.
use Rattle.std.proofs.Common.{◌≡◌, ℕ, ◌+◌, ◌-◌, ◌<◌, ◌≤◌, Bool, List, [], ◌∷◌, ◌++◌, length, take, get_or, refl, sym, ap, ◌∙◌, arith, length-append}
use Rattle.std.specs.Prelude.{Result, Ok, Err, IfOk, IfErr, OnOk}
use Rattle.std.proofs.lemmas.List.{append-nil, append_assoc, take_at, ext_get_or, nil_from_length}
use Rattle.std.proofs.lemmas.List.Concat.{flat_map-append}
use Rattle.strm_frames.specs.Frames.{Frame, spelled, encoding, part_for, lane_in}
use Rattle.strm_frames.specs.Streams.{IsPartOfFrame, place_told}
use Rattle.strm_frames.specs.Fronts.{Whole, front_of}
use Rattle.strm_frames.specs.Taking.{flagged, flags_after, AreAllowed, AreEach, IsFlagged, Surveys, SurveysFault, ExtendsLanes, IsHalted, Appends, AppendsSome, Retracts, StopsAtFrame, AreSpelledFrames}
use Rattle.strm_frames.specs.declared.errors.Fault.{Fault}
use Rattle.strm_frames.specs.declared.errors.Fault.TheVariants.{BadKind, EmptyFrame, AfterEnd}
use Rattle.strm_frames.proofs.FrontLemmas.{front-spelled, front-part}
use Rattle.strm_frames.proofs.DemuxLemmas.{each_allowed, same_whole, same_spelled, nothing_halts, spelling_append}

-- SURVEYED

-- of the first one nothing is left
first_whole : (fs : List Frame) (flags : List Bool) (left x : List ℕ) → x ≡ encoding fs ++ left → AreAllowed flags fs → IsPartOfFrame left → StopsAtFrame x → left ≡ []
unfolding AreAllowed
first_whole [] flags left x e a p t = sym e ∙ t.no_part (sym (front-part left p) ∙ ap front_of (sym e))
first_whole (g ∷ gs) flags left x e a p t =
    let w : Whole g (encoding gs ++ left) ≡ front_of x = sym (front-spelled g (encoding gs ++ left) a.0) ∙ ap front_of (sym (e ∙ append_assoc (spelled g) (encoding gs) left)) in
    let none : encoding gs ++ left ≡ [] = t.no_more g (encoding gs ++ left) w in
    nil_from_length left (omega (arith, ap length none, length-append (encoding gs) left))

first_spelled : (x : List ℕ) (flags after : List Bool) (used : ℕ) (s : Surveys x flags after used) → StopsAtFrame x → x ≡ encoding s.frames
first_spelled x flags after used s t =
    s.whole ∙ ap (λ (r : List ℕ). encoding s.frames ++ r) (first_whole s.frames flags s.left x s.whole s.allowed s.part t) ∙ append-nil (encoding s.frames)

pub are_spelled : (x : List ℕ) (flags after : List Bool) (used : ℕ) → Surveys x flags after used → StopsAtFrame x → AreSpelledFrames x
are_spelled x flags after used s t = record { frames = s.frames; spelled = first_spelled x flags after used s t; are = each_allowed flags s.frames s.allowed }

flags_both : (flags : List Bool) (fs gs : List Frame) → flags_after flags (fs ++ gs) ≡ flags_after (flags_after flags fs) gs
unfolding flags_after
flags_both flags [] gs = refl
flags_both flags (f ∷ fs) gs = flags_both (flagged flags f) fs gs

allowed_both : (flags : List Bool) (fs gs : List Frame) → AreAllowed flags fs → AreAllowed (flags_after flags fs) gs → AreAllowed flags (fs ++ gs)
unfolding AreAllowed flags_after
allowed_both flags [] gs a b = b
allowed_both flags (f ∷ fs) gs a b = (a.0, a.1, a.2, allowed_both (flagged flags f) fs gs a.3 b)

whole_both : (fs gs : List Frame) (x y left : List ℕ) → x ≡ encoding fs → y ≡ encoding gs ++ left → x ++ y ≡ encoding (fs ++ gs) ++ left
whole_both fs gs x y left e d =
    ap (λ (s : List ℕ). s ++ y) e ∙ ap (λ (s : List ℕ). encoding fs ++ s) d ∙ sym (append_assoc (encoding fs) (encoding gs) left)
    ∙ ap (λ (s : List ℕ). s ++ left) (sym (spelling_append fs gs))

pub surveys_both : (x y : List ℕ) (flags mid after : List Bool) (u v : ℕ) → Surveys x flags mid u → StopsAtFrame x → Surveys y mid after v → Surveys (x ++ y) flags after (length x + v)
surveys_both x y flags mid after u v s t r =
    let xs : x ≡ encoding s.frames = first_spelled x flags mid u s t in
    record {
      frames = s.frames ++ r.frames;
      left = r.left;
      whole = whole_both s.frames r.frames x y r.left xs r.whole;
      used_is = omega (arith, r.used_is, ap length xs, ap length (spelling_append s.frames r.frames), length-append (encoding s.frames) (encoding r.frames));
      allowed = allowed_both flags s.frames r.frames s.allowed (rw (← s.flags_are) r.allowed);
      flags_are = r.flags_are ∙ ap (λ (b : List Bool). flags_after b r.frames) s.flags_are ∙ sym (flags_both flags s.frames r.frames);
      part = r.part;
    }

pub used_within : (y : List ℕ) (flags after : List Bool) (v : ℕ) → Surveys y flags after v → v ≤ length y
used_within y flags after v r = omega (arith, r.used_is, ap length r.whole, length-append (encoding r.frames) r.left)

-- a fault of the first is one of both
flagged_more : (flags : List Bool) (place : ℕ) (next more : List ℕ) (fault : Fault) → IsFlagged flags place next fault → IsFlagged flags place (next ++ more) fault
flagged_more flags place (k ∷ b) more (BadKind at) w = w
flagged_more flags place (k ∷ x ∷ n ∷ r) more (EmptyFrame at) w = w
flagged_more flags place next more (AfterEnd at) w =
    let v = w.1 in
    (w.0, record { frame = v.frame; more = v.more ++ more; is = v.is; below = v.below; begins = ap (λ (b : List ℕ). b ++ more) v.begins ∙ append_assoc (spelled v.frame) v.more more; flag = v.flag })
flagged_more flags place [] more (BadKind at) w = absurd w.1
flagged_more flags place [] more (EmptyFrame at) w = absurd w.1
flagged_more flags place (k ∷ []) more (EmptyFrame at) w = absurd w.1
flagged_more flags place (k ∷ x ∷ []) more (EmptyFrame at) w = absurd w.1

pub fault_first : (x y : List ℕ) (flags : List Bool) (place : ℕ) (fault : Fault) → SurveysFault x flags place fault → SurveysFault (x ++ y) flags place fault
fault_first x y flags place fault s = record {
  frames = s.frames;
  next = s.next ++ y;
  whole = ap (λ (b : List ℕ). b ++ y) s.whole ∙ append_assoc (encoding s.frames) s.next y;
  allowed = s.allowed;
  is = flagged_more (flags_after flags s.frames) (place + length (encoding s.frames)) s.next y fault s.is;
}

-- a fault of the second stands as far behind the first
flagged_at : (flags : List Bool) (place q n m : ℕ) (next : List ℕ) (fault : Fault) → q ≡ place_told (place + n) → IsFlagged flags (q + m) next fault → IsFlagged flags (place + (n + m)) next fault
flagged_at flags place q n m next (BadKind at) e w = (omega (arith, w.0, e), w.1)
flagged_at flags place q n m next (EmptyFrame at) e w = (omega (arith, w.0, e), w.1)
flagged_at flags place q n m next (AfterEnd at) e w = (omega (arith, w.0, e), w.1)

pub fault_second : (x y : List ℕ) (flags mid : List Bool) (u place q : ℕ) (fault : Fault) → Surveys x flags mid u → StopsAtFrame x → q ≡ place_told (place + length x) → SurveysFault y mid q fault → SurveysFault (x ++ y) flags place fault
fault_second x y flags mid u place q fault s t e r =
    let xs : x ≡ encoding s.frames = first_spelled x flags mid u s t in
    let long : length (encoding (s.frames ++ r.frames)) ≡ length x + length (encoding r.frames) = ap length (spelling_append s.frames r.frames) ∙ length-append (encoding s.frames) (encoding r.frames) ∙ ap (λ (b : List ℕ). length b + length (encoding r.frames)) (sym xs) in
    let same : mid ≡ flags_after flags s.frames = s.flags_are in
    record {
      frames = s.frames ++ r.frames;
      next = r.next;
      whole = whole_both s.frames r.frames x y r.next xs r.whole;
      allowed = allowed_both flags s.frames r.frames s.allowed (rw (← same) r.allowed);
      is = rw (long, flags_both flags s.frames r.frames, ← same) (flagged_at (flags_after mid r.frames) place q (length x) (length (encoding r.frames)) r.next fault e r.is);
    }

pub both_ok : (x y : List ℕ) (flags mid after : List Bool) (u : ℕ) (r : Result ℕ Fault) → Surveys x flags mid u → StopsAtFrame x → IfOk r (λ v. Surveys y mid after v) → IfOk r (λ v. Surveys (x ++ y) flags after (length x + v))
both_ok x y flags mid after u (Ok v) s t r = surveys_both x y flags mid after u v s t r
both_ok x y flags mid after u (Err fault) s t r = r

pub both_whole : (x : List ℕ) (flags mid : List Bool) (u : ℕ) (r : Result ℕ Fault) → Surveys x flags mid u → StopsAtFrame x → OnOk r (AreSpelledFrames x)
both_whole x flags mid u (Ok v) s t = are_spelled x flags mid u s t
both_whole x flags mid u (Err fault) s t = tt

pub both_fault : (x y : List ℕ) (flags mid : List Bool) (u place q : ℕ) (r : Result ℕ Fault) → Surveys x flags mid u → StopsAtFrame x → q ≡ place_told (place + length x) → IfErr r (λ fault. SurveysFault y mid q fault) → IfErr r (λ fault. SurveysFault (x ++ y) flags place fault)
both_fault x y flags mid u place q (Ok v) s t e r = r
both_fault x y flags mid u place q (Err fault) s t e r = fault_second x y flags mid u place q fault s t e r

-- PUT INTO LANES

extends_both : (old mid new : List (List ℕ)) (fs gs : List Frame) → ExtendsLanes old mid fs → ExtendsLanes mid new gs → ExtendsLanes old new (fs ++ gs)
extends_both old mid new fs gs a b = record {
  same = b.same ∙ a.same;
  each = λ k h. b.each k h ∙ ap (λ (s : List ℕ). s ++ lane_in k gs) (a.each k h) ∙ append_assoc (get_or old k []) (lane_in k fs) (lane_in k gs)
      ∙ ap (λ (s : List ℕ). get_or old k [] ++ s) (sym (flat_map-append (part_for k) fs gs));
}

each_both : (fs gs : List Frame) → AreEach fs → AreEach gs → AreEach (fs ++ gs)
unfolding AreEach
each_both [] gs a b = b
each_both (f ∷ fs) gs a b = (a.0, a.1, each_both fs gs a.2 b)

pub appends_both : (x y : List ℕ) (old mid new : List (List ℕ)) → AreSpelledFrames x → Appends x old mid → Appends y mid new → Appends (x ++ y) old new
appends_both x y old mid new w a b =
    let same : w.frames ≡ a.frames = same_spelled w.frames a.frames x a.left w.spelled a.whole w.are a.are a.halts in
    let xs : x ≡ encoding a.frames = w.spelled ∙ ap encoding same in
    record {
      frames = a.frames ++ b.frames;
      left = b.left;
      whole = whole_both a.frames b.frames x y b.left xs b.whole;
      are = each_both a.frames b.frames a.are b.are;
      halts = b.halts;
      extends = extends_both old mid new a.frames b.frames a.extends b.extends;
    }

-- TAKEN OUT AGAIN

again : (b left : List ℕ) (frames : List Frame) (old mid new : List (List ℕ)) → b ≡ encoding frames ++ left → AreEach frames → IsHalted left → length old ≡ 256 → ExtendsLanes old mid frames → Retracts b mid new → new ≡ old
again b left frames old mid new w a h n x r =
    ext_get_or [] new old (r.same ∙ x.same) (λ lane l. each lane (omega (arith, l, r.same, x.same, n)))
  where
    each : (lane : ℕ) → lane < 256 → get_or new lane [] ≡ get_or old lane []
    each lane l =
        let c = r.each lane l in
        let same : frames ≡ c.1.frames = same_whole frames c.1.frames left c.1.left (sym w ∙ c.1.whole) a c.1.are h c.1.halts in
        let count : c.0 ≡ length (lane_in lane frames) = c.1.count_is ∙ rw same refl in
        let was = x.each lane l in
        let few : length (get_or mid lane []) - c.0 ≡ length (get_or old lane []) = omega (arith, count, ap length was, length-append (get_or old lane []) (lane_in lane frames)) in
        c.2 ∙ rw (few, was) (take_at (get_or old lane []) (lane_in lane frames) (length (get_or old lane [])) refl)

-- where memory had run out the lanes are as they were
pub again_some : (b : List ℕ) (done : ℕ) (old mid new : List (List ℕ)) → AppendsSome b old mid done → Retracts (take done b) mid new → new ≡ old
again_some b done old mid new a r =
    let front : take done b ≡ encoding a.frames = ap (take done) a.whole ∙ take_at (encoding a.frames) a.left done (sym a.done_is) in
    again (take done b) [] a.frames old mid new (front ∙ sym (append-nil (encoding a.frames))) a.are nothing_halts a.long a.extends r

pub again_all : (b : List ℕ) (old mid new : List (List ℕ)) → length old ≡ 256 → Appends b old mid → Retracts b mid new → new ≡ old
again_all b old mid new n a r = again b a.left a.frames old mid new a.whole a.are a.halts n a.extends r
