-- One type alone: what is lifted and lowered of its words.
use Rattle.std.proofs.Common.{◌≡◌, ℕ, ◌+◌, ◌≤◌, ℤ, Bool, true, false, List, [], ◌∷◌, ◌++◌, length, take, drop, Option, Some, None, refl, sym, ap, ◌∙◌, arith, length-drop}
use Rattle.std.specs.Bool.{then_some}
use Rattle.std.specs.Prelude.{is_some}
use Rattle.strm_codes.specs.ItemTypes.{ItemType, no_parts, part, align_of, item_size, end_of}
use Rattle.strm_memory.specs.Bytes.{IsBytes}
use Rattle.strm_codes.specs.Spellings.{taken, first_type}
use Rattle.strm_codes.specs.Begins.{BeginFields, FitsItem}
use Rattle.strm_memory.specs.Loads.{decode, decode_parts}
use Rattle.strm_memory.specs.Walks.{with_front, item_on, fields_on}
use Rattle.strm_memory.proofs.ByteLemmas.{IsBytes-drop}
use Rattle.strm_memory.proofs.LoadLemmas.{FitsItem-decode}
use Rattle.strm_memory.proofs.WalkLemmas.{no_gap, decode-one}
use Rattle.strm_memory.proofs.LowerLemmas.{encode-one}

one_type : (ts : List ItemType) → length ts ≡ 1 → taken 1 ts ≡ part (first_type ts) no_parts
one_type [] l = absurd (omega arith)
one_type (t ∷ ts) l = refl

pub end-one : (ts : List ItemType) → length ts ≡ 1 → end_of 0 (taken 1 ts) ≡ item_size (first_type ts)
end-one ts l = rw (one_type ts l) (omega (arith, no_gap (align_of (first_type ts))))

none_before : (o : Option (List ℤ)) → with_front [] o ≡ o
none_before None = refl
none_before (Some xs) = refl

pub lifted_one : (ts : List ItemType) (bytes : List ℕ) (from : ℕ) (good : Bool) (old new : List ℤ) → length ts ≡ 1 → old ≡ [] → then_some good new ≡ with_front old (decode_parts 0 (taken 1 ts) (drop (from + 0) bytes)) → then_some good new ≡ decode (first_type ts) (drop from bytes)
lifted_one ts bytes from good old new l n e =
    let z : from + 0 ≡ from = omega arith in
    e ∙ ap (λ o. with_front o (decode_parts 0 (taken 1 ts) (drop (from + 0) bytes))) n
    ∙ none_before (decode_parts 0 (taken 1 ts) (drop (from + 0) bytes))
    ∙ ap (λ ps. decode_parts 0 ps (drop (from + 0) bytes)) (one_type ts l)
    ∙ decode-one (first_type ts) (drop (from + 0) bytes)
    ∙ ap (λ k. decode (first_type ts) (drop k bytes)) z

pub begin_one : (ts : List ItemType) (bytes : List ℕ) (from : ℕ) (xs : List ℤ) → IsBytes bytes → length ts ≡ 1 → Some xs ≡ decode (first_type ts) (drop from bytes) → BeginFields (taken 1 ts) xs
begin_one ts bytes from xs h l e =
    let i = FitsItem-decode (first_type ts) (drop from bytes) xs (IsBytes-drop bytes from h) (sym e) in
    rw (one_type ts l) (i.begins, tt)

pub item_begins : (ts : List ItemType) (xs : List ℤ) → length ts ≡ 1 → FitsItem (first_type ts) xs → BeginFields (taken 1 ts) xs
item_begins ts xs l i = rw (one_type ts l) (i.begins, tt)

pub lowered_one : (ts : List ItemType) (xs : List ℤ) (m new : List ℕ) (to : ℕ) → length ts ≡ 1 → to + item_size (first_type ts) ≤ length m → new ≡ fields_on 0 (taken 1 ts) xs (to + 0) m → new ≡ item_on (first_type ts) xs to m
lowered_one ts xs m new to l h e =
    let z : to + 0 ≡ to = omega arith in
    e ∙ ap (λ ps. fields_on 0 ps xs (to + 0) m) (one_type ts l)
    ∙ ap (λ k. fields_on 0 (part (first_type ts) no_parts) xs k m) z
    ∙ ap (λ b. take to m ++ b) (encode-one (first_type ts) (drop to m) xs (omega (arith, h, length-drop to m)))

-- what was lifted is there
pub there_is : (o : Option (List ℤ)) (good : Bool) (x : List ℤ) → then_some good x ≡ o → good ≡ is_some o
there_is None true x e = cc
there_is None false x e = refl
there_is (Some y) true x e = refl
there_is (Some y) false x e = cc
