-- One type more, in a walk over the types that words spell.
use Rattle.std.proofs.Common.{◌≡◌, ℕ, suc, ◌+◌, ◌≤◌, ◌-◌, ℤ, Bool, true, List, ◌∷◌, length, drop, Option, Some, None, refl, sym, ap, ◌∙◌, append_assoc, append-nil, arith}
use Rattle.std.proofs.lemmas.List.{drop-drop}
use Rattle.std.specs.Bool.{then_some}
use Rattle.strm_codes.specs.Offsets.{gap_before}
use Rattle.strm_codes.specs.ItemTypes.{ItemType, rounded, align_of, item_size, end_of}
use Rattle.strm_codes.specs.Spellings.{taken, arity, type_with, spelled, behind}
use Rattle.strm_memory.specs.Loads.{both, decode, decode_parts}
use Rattle.strm_memory.specs.Walks.{with_front, IsFew}
use Rattle.strm_codes.specs.declared.nodes.Node.{Node}
use Rattle.strm_memory.proofs.LoadLemmas.{le-end_of}
use Rattle.strm_codes.proofs.SpellingLemmas.{length-behind, taken_first, behind-behind, shorter_behind}

-- what is known of the first of the types
pub record IsStep (n : Node) (ns : List Node) (at start bytes : ℕ) : Type 0 where
  pub starts : start ≡ rounded at (align_of (type_with n (spelled ns)))
  pub takes : bytes ≡ item_size (type_with n (spelled ns))

pub end_of_first : (n : Node) (ns : List Node) (parts at start bytes : ℕ) → 1 ≤ parts → IsStep n ns at start bytes → end_of at (taken parts (spelled (n ∷ ns))) ≡ end_of (start + bytes) (taken (parts - 1) (spelled (behind (arity n) ns)))
end_of_first n ns parts at start bytes h s = rw (taken_first n ns parts h, s.starts, s.takes) refl

pub first_room : (n : Node) (ns : List Node) (parts at start bytes : ℕ) → 1 ≤ parts → IsStep n ns at start bytes → start + bytes ≤ end_of at (taken parts (spelled (n ∷ ns)))
first_room n ns parts at start bytes h s = rw (end_of_first n ns parts at start bytes h s) (le-end_of (start + bytes) (taken (parts - 1) (spelled (behind (arity n) ns))))

module _ (n : Node) (ns : List Node) (parts at start w from : ℕ) (bytes : List ℕ)
    (h : 1 ≤ parts) (s : IsStep n ns at start w) where
  pub fields_first : decode_parts at (taken parts (spelled (n ∷ ns))) (drop (from + at) bytes) ≡ both (decode (type_with n (spelled ns)) (drop (from + start) bytes)) (decode_parts (start + w) (taken (parts - 1) (spelled (behind (arity n) ns))) (drop (from + (start + w)) bytes))
  unfolding decode
  fields_first =
      let t = type_with n (spelled ns) in
      let gap = gap_before at (align_of t) in
      let a : from + (at + gap) ≡ from + at + gap = omega arith in
      let b : from + (at + gap + item_size t) ≡ from + at + (gap + item_size t) = omega arith in
      rw (taken_first n ns parts h, s.starts, s.takes, a, b, drop-drop gap (from + at) bytes, drop-drop (gap + item_size t) (from + at) bytes) refl

front_both : (old : List ℤ) (o p : Option (List ℤ)) → with_front old (both o p) ≡ both (with_front old o) p
front_both old None p = refl
front_both old (Some xs) None = refl
front_both old (Some xs) (Some ys) = ap Some (sym (append_assoc old xs ys))

-- all that is lifted of the types, once the first was entered and its parts were lifted
module _ (old entered new last : List ℤ) (inner outer : Bool) (first values rest whole : Option (List ℤ))
    (w : whole ≡ both first rest) (same : with_front old first ≡ with_front entered values) (got : then_some inner new ≡ with_front entered values) (all : inner ≡ true)
    (out : then_some outer last ≡ with_front new rest) where
  pub lifts_on : then_some outer last ≡ with_front old whole
  lifts_on =
      let value : Some new ≡ with_front old first = (rw all at got) ∙ sym same in
      out ∙ ap (λ o. both o rest) value ∙ sym (front_both old first rest) ∙ ap (with_front old) (sym w)

pub lifts_none : (old entered new : List ℤ) (first values rest whole : Option (List ℤ)) → whole ≡ both first rest → with_front old first ≡ with_front entered values → None ≡ with_front entered values → None ≡ with_front old whole
lifts_none old entered new first values rest whole w same got =
    let value : None ≡ with_front old first = got ∙ sym same in
    ap (λ o. both o rest) value ∙ sym (front_both old first rest) ∙ ap (with_front old) (sym w)

pub first_none : (old : List ℤ) (first rest whole : Option (List ℤ)) → whole ≡ both first rest → first ≡ None → None ≡ with_front old whole
first_none old first rest whole w none = rw (w, none) refl

pub nothing_lifted : (old : List ℤ) (parts at : ℕ) (ts : List ItemType) (bytes : List ℕ) → parts ≡ 0 → Some old ≡ with_front old (decode_parts at (taken parts ts) bytes)
unfolding decode
nothing_lifted old parts at ts bytes e = rw e (ap Some (sym (append-nil old)))

-- numbers and words, once the parts of the first were lifted
pub few_inside : (n : Node) (ns values : List Node) (skipped parts : ℕ) (old entered new : List ℤ) → values ≡ behind skipped ns → skipped + parts ≤ arity n → length entered ≤ length old + 1 → IsFew entered new parts values
    → length new + length (behind (arity n) ns) ≤ length old + 1 + length ns
few_inside n ns values skipped parts old entered new e w one few =
    let a : behind parts values ≡ behind (skipped + parts) ns = ap (behind parts) e ∙ sym (behind-behind ns skipped parts) in
    let b : length (behind (arity n) ns) ≤ length (behind parts values) = rw a (shorter_behind ns (skipped + parts) (arity n) w) in
    let c : length values ≤ length ns = rw e (length-behind skipped ns) in
    omega (arith, few, one)

pub few_all : (n : Node) (ns : List Node) (parts : ℕ) (old new last : List ℤ) → 1 ≤ parts → length new + length (behind (arity n) ns) ≤ length old + 1 + length ns → IsFew new last (parts - 1) (behind (arity n) ns) → IsFew old last parts (n ∷ ns)
unfolding behind
few_all n ns parts old new last h a b =
    let p : parts ≡ suc (parts - 1) = omega arith in
    let same : behind parts (n ∷ ns) ≡ behind (parts - 1) (behind (arity n) ns) = ap (λ j. behind j (n ∷ ns)) p ∙ behind-behind ns (arity n) (parts - 1) in
    omega (arith, ap length same, a, b)
