-- Bytes have one reading.
use Rattle.std.proofs.Common.{◌≡◌, false, ℕ, List, [], ◌∷◌, ◌++◌, length, refl, sym, ap, ◌∙◌}
use Rattle.std.proofs.lemmas.Bool.{both_ways}
use Rattle.std.proofs.lemmas.List.{append-nil, append_assoc}
use Rattle.strm_frames.specs.Frames.{Frame, lane_named, spelled, IsFrame, encoding, ends, AreFramesAfter}
use Rattle.strm_frames.specs.Streams.{IsPartOfFrame, Splits, IsFrameFault, Faults}
use Rattle.strm_frames.specs.Fronts.{Whole, Part, Other, Empty, front_of}
use Rattle.strm_frames.specs.declared.errors.Fault.{Fault}
use Rattle.strm_frames.specs.declared.errors.Fault.TheVariants.{BadKind, EmptyFrame, AfterEnd}
use Rattle.strm_frames.proofs.FrontLemmas.{front-spelled, front-part, front-other, front-empty}

-- behind these frames no frame goes on
pub record IsStuck (frames : List Frame) (next : List ℕ) : Type 0 where
  pub none : (f : Frame) (more : List ℕ) → IsFrame f → ends (lane_named f) frames ≡ false → next ≡ spelled f ++ more → ⊥

part_stuck : (frames : List Frame) (rest : List ℕ) → IsPartOfFrame rest → IsStuck frames rest
part_stuck frames rest p = record { none = λ f more h n e. let q : Part ≡ Whole f more = sym (front-part rest p) ∙ ap front_of e ∙ front-spelled f more h in cc }

fault_stuck : (frames : List Frame) (place : ℕ) (next : List ℕ) (fault : Fault) → IsFrameFault frames place next fault → IsStuck frames next
fault_stuck frames place next (BadKind at) w = record { none = λ f more h n e. let q : Other ≡ Whole f more = sym (front-other next w.1) ∙ ap front_of e ∙ front-spelled f more h in cc }
fault_stuck frames place next (EmptyFrame at) w = record { none = λ f more h n e. let q : Empty ≡ Whole f more = sym (front-empty next w.1) ∙ ap front_of e ∙ front-spelled f more h in cc }
fault_stuck frames place next (AfterEnd at) w =
    let v = w.1 in
    record {
      none = λ f more h n e.
          let q : Whole v.frame v.more ≡ Whole f more = sym (front-spelled v.frame v.more v.is) ∙ ap front_of (sym v.begins ∙ e) ∙ front-spelled f more h in
          let s : v.frame ≡ f = cc in
          both_ways (ends (lane_named f) frames) n (rw s at v.ended);
    }

-- two readings are the same
same_from : (earlier frames others : List Frame) (rest left : List ℕ) → encoding frames ++ rest ≡ encoding others ++ left → AreFramesAfter earlier frames → AreFramesAfter earlier others → IsStuck (earlier ++ frames) rest → IsStuck (earlier ++ others) left → (frames ≡ others) × (rest ≡ left)
unfolding AreFramesAfter
same_from earlier [] [] rest left e a b p q = (refl, e)
same_from earlier [] (g ∷ gs) rest left e a b p q =
    absurd (p.none g (encoding gs ++ left) b.0 (rw append-nil b.1) (e ∙ append_assoc (spelled g) (encoding gs) left))
same_from earlier (f ∷ fs) [] rest left e a b p q =
    absurd (q.none f (encoding fs ++ rest) a.0 (rw append-nil a.1) (sym e ∙ append_assoc (spelled f) (encoding fs) rest))
same_from earlier (f ∷ fs) (g ∷ gs) rest left e a b p q =
    let ff = front-spelled f (encoding fs ++ rest) a.0 in
    let gg = front-spelled g (encoding gs ++ left) b.0 in
    let w : Whole f (encoding fs ++ rest) ≡ Whole g (encoding gs ++ left) =
    sym ff ∙ ap front_of (sym (append_assoc (spelled f) (encoding fs) rest) ∙ e ∙ append_assoc (spelled g) (encoding gs) left) ∙ gg in
    let s : f ≡ g = cc in
    let t : encoding fs ++ rest ≡ encoding gs ++ left = cc in
    let b2 : AreFramesAfter (earlier ++ f ∷ []) gs = rw s b.2 in
    let p2 : IsStuck ((earlier ++ f ∷ []) ++ fs) rest = rw append_assoc p in
    let q2 : IsStuck ((earlier ++ f ∷ []) ++ gs) left = rw (append_assoc, s) q in
    let r = same_from (earlier ++ f ∷ []) fs gs rest left t a.2 b2 p2 q2 in
    (cc (r.0, s), r.1)

pub one_split : (bytes : List ℕ) (frames others : List Frame) (rest left : List ℕ) → Splits bytes frames rest → Splits bytes others left → (frames ≡ others) × (rest ≡ left)
one_split bytes frames others rest left a b = same_from [] frames others rest left (sym a.whole ∙ b.whole) a.are b.are (part_stuck frames rest a.part) (part_stuck others left b.part)

pub apart : (bytes : List ℕ) (frames : List Frame) (rest : List ℕ) (fault : Fault) → Splits bytes frames rest → Faults bytes fault → ⊥
apart bytes frames rest fault a b =
    let s = same_from [] frames b.frames rest b.next (sym a.whole ∙ b.whole) a.are b.are (part_stuck frames rest a.part) (fault_stuck b.frames (length (encoding b.frames)) b.next fault b.is) in
    not_part b.frames (length (encoding b.frames)) b.next fault b.is (sym (ap front_of s.1) ∙ front-part rest a.part)
  where
    not_part : (frames : List Frame) (place : ℕ) (next : List ℕ) (fault : Fault) → IsFrameFault frames place next fault → front_of next ≡ Part → ⊥
    not_part frames place next (BadKind at) w e = let q : Other ≡ Part = sym (front-other next w.1) ∙ e in cc
    not_part frames place next (EmptyFrame at) w e = let q : Empty ≡ Part = sym (front-empty next w.1) ∙ e in cc
    not_part frames place next (AfterEnd at) w e =
        let v = w.1 in
        let q : Whole v.frame v.more ≡ Part = sym (front-spelled v.frame v.more v.is) ∙ sym (ap front_of v.begins) ∙ e in cc

same_fault : (frames others : List Frame) (p : ℕ) (next : List ℕ) (fault other : Fault) → IsFrameFault frames p next fault → IsFrameFault others p next other → fault ≡ other
same_fault frames others p next (BadKind a) (BadKind b) x y = cc (x.0, y.0)
same_fault frames others p next (EmptyFrame a) (EmptyFrame b) x y = cc (x.0, y.0)
same_fault frames others p next (AfterEnd a) (AfterEnd b) x y = cc (x.0, y.0)
same_fault frames others p next (BadKind a) (EmptyFrame b) x y = let q : Other ≡ Empty = sym (front-other next x.1) ∙ front-empty next y.1 in cc
same_fault frames others p next (EmptyFrame a) (BadKind b) x y = let q : Other ≡ Empty = sym (front-other next y.1) ∙ front-empty next x.1 in cc
same_fault frames others p next (BadKind a) (AfterEnd b) x y = let v = y.1 in let q : Other ≡ Whole v.frame v.more = sym (front-other next x.1) ∙ ap front_of v.begins ∙ front-spelled v.frame v.more v.is in cc
same_fault frames others p next (AfterEnd a) (BadKind b) x y = let v = x.1 in let q : Other ≡ Whole v.frame v.more = sym (front-other next y.1) ∙ ap front_of v.begins ∙ front-spelled v.frame v.more v.is in cc
same_fault frames others p next (EmptyFrame a) (AfterEnd b) x y = let v = y.1 in let q : Empty ≡ Whole v.frame v.more = sym (front-empty next x.1) ∙ ap front_of v.begins ∙ front-spelled v.frame v.more v.is in cc
same_fault frames others p next (AfterEnd a) (EmptyFrame b) x y = let v = x.1 in let q : Empty ≡ Whole v.frame v.more = sym (front-empty next y.1) ∙ ap front_of v.begins ∙ front-spelled v.frame v.more v.is in cc

pub one_fault : (bytes : List ℕ) (fault other : Fault) → Faults bytes fault → Faults bytes other → fault ≡ other
one_fault bytes fault other a b =
    let s = same_from [] a.frames b.frames a.next b.next (sym a.whole ∙ b.whole) a.are b.are (fault_stuck a.frames (length (encoding a.frames)) a.next fault a.is) (fault_stuck b.frames (length (encoding b.frames)) b.next other b.is) in
    along a.frames b.frames a.next b.next s.0 s.1 fault other a.is b.is
  where
    along : (fs gs : List Frame) (n m : List ℕ) → fs ≡ gs → n ≡ m → (x y : Fault) → IsFrameFault fs (length (encoding fs)) n x → IsFrameFault gs (length (encoding gs)) m y → x ≡ y
    along fs gs n m e d x y p q = same_fault fs gs (length (encoding fs)) n x y p (rw (e, d) q)

fault_on : (frames : List Frame) (place : ℕ) (next more : List ℕ) (fault : Fault) → IsFrameFault frames place next fault → IsFrameFault frames place (next ++ more) fault
fault_on frames place (k ∷ b) more (BadKind at) w = w
fault_on frames place (k ∷ x ∷ n ∷ r) more (EmptyFrame at) w = w
fault_on frames place next more (AfterEnd at) w =
    let v = w.1 in
    (w.0, record { frame = v.frame; more = v.more ++ more; is = v.is; begins = ap (λ (b : List ℕ). b ++ more) v.begins ∙ append_assoc (spelled v.frame) v.more more; ended = v.ended })
fault_on frames place [] more (BadKind at) w = absurd w.1
fault_on frames place [] more (EmptyFrame at) w = absurd w.1
fault_on frames place (k ∷ []) more (EmptyFrame at) w = absurd w.1
fault_on frames place (k ∷ x ∷ []) more (EmptyFrame at) w = absurd w.1

pub stays : (bytes more : List ℕ) (fault : Fault) → Faults bytes fault → Faults (bytes ++ more) fault
stays bytes more fault a = record {
  frames = a.frames;
  next = a.next ++ more;
  whole = ap (λ (b : List ℕ). b ++ more) a.whole ∙ append_assoc (encoding a.frames) a.next more;
  are = a.are;
  is = fault_on a.frames (length (encoding a.frames)) a.next more fault a.is;
}
