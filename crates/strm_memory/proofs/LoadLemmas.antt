-- One item of any type: it depends on its own bytes alone (`load-take`), is stored in them alone
-- (`length-store`, `drop-store`), and what was stored is loaded again (`load-store`); what is loaded is an
-- item (`FitsItem-load`).
use Rattle.std.proofs.Common.{◌≡◌, ℕ, zero, suc, ◌+◌, ◌^◌, ◌<◌, ◌≤◌, ◌-◌, ◌%◌, min, ℤ, pos, negsuc, List, [], ◌∷◌, ◌++◌, length, take, drop, Option, Some, None, inl, inr, refl, sym, subst, ap, ◌∙◌, append_assoc, append-nil, arith, length-append, length-drop}
use Rattle.std.proofs.lemmas.Int.{ints}
use Rattle.std.proofs.lemmas.Bool.{lt-ltb, le-ltb, cases_lt}
use Rattle.std.proofs.lemmas.List.{take_at, drop_at, length-take-le, drop-drop, drop-take, take-take}
use Rattle.std.proofs.lemmas.Option.{option_and_then_some}
use Rattle.std.proofs.Math.Nat.{mod-eq_of_lt, mod-lt, one-le-pow}
use Rattle.std.proofs.Math.Pow.{pow_mono}
use Rattle.std.specs.Option.{option_map}
use Rattle.strm_codes.specs.Scalars.{size_of, IsBelow, magnitude}
use Rattle.strm_codes.specs.Offsets.{gap_before}
use Rattle.strm_codes.specs.ItemTypes.{ItemType, Plain, Flags, Record, Variant, Parts, no_parts, part, count, flags_size, discriminant_size, rounded, align_of, most_align, case_offset, item_size, end_of, most_size}
use Rattle.strm_memory.specs.Bytes.{le, to_le, IsBytes}
use Rattle.strm_memory.specs.Numbers.{lifted, lowered}
use Rattle.strm_codes.specs.Begins.{flags_limit, discriminant_limit, left, left_fields, left_case, Begins, BeginFields, BeginsCase, FitsItem}
use Rattle.strm_memory.specs.Loads.{both, decode, decode_parts, decode_case, encode, encode_parts, encode_case}
use Rattle.strm_memory.proofs.ByteLemmas.{length-to_le, le-to_le, le-take-lt, IsBytes-drop}
use Rattle.strm_memory.proofs.NumberLemmas.{IsLifted, IsLifted-fits, FitsScalar-lifted}

pub option_map_some : {A B P : Type 0} (f : A → B) (o : Option A) (y : B) → option_map f o ≡ Some y → ((x : A) → o ≡ Some x → f x ≡ y → P) → P
option_map_some f None y e k = cc
option_map_some f (Some x) y e k = k x refl cc

-- ## Bytes

drop_front : (k n : ℕ) (bytes : List ℕ) → n ≤ k → drop n (take k bytes) ≡ take (k - n) (drop n bytes)
drop_front k n bytes h =
    let a : n + (k - n) ≡ k = omega arith in
    subst (λ j. drop n (take j bytes) ≡ take (k - n) (drop n bytes)) a (drop-take n (k - n) bytes)

-- what lies behind new bytes, and was there before
drop_past : (new bytes : List ℕ) (n k : ℕ) → length new ≡ n → n ≤ k → drop k (new ++ drop n bytes) ≡ drop k bytes
drop_past new bytes n k e h =
    let split : k ≡ n + (k - n) = omega arith in
    rw split (sym (drop-drop (k - n) n (new ++ drop n bytes)) ∙ ap (drop (k - n)) (drop_at new (drop n bytes) n e) ∙ drop-drop (k - n) n bytes)

-- the same where they were changed behind that
drop_past_new : (new other : List ℕ) (bytes : List ℕ) (n k : ℕ) → length new ≡ n → n ≤ k → drop (k - n) other ≡ drop (k - n) (drop n bytes) → drop k (new ++ other) ≡ drop k bytes
drop_past_new new other bytes n k e h g =
    let split : k ≡ n + (k - n) = omega arith in
    rw split (sym (drop-drop (k - n) n (new ++ other)) ∙ ap (drop (k - n)) (drop_at new other n e) ∙ g ∙ drop-drop (k - n) n bytes)

-- ## Sizes

pub le-end_of : (at : ℕ) (ps : Parts) → at ≤ end_of at ps
le-end_of at no_parts = omega arith
le-end_of at (part t ps) = omega (arith, le-end_of (rounded at (align_of t) + item_size t) ps)

fields_within : (end align k : ℕ) → rounded end align ≤ k → end ≤ 0 + k
fields_within end align k h = omega arith

-- the parts of a variant
record IsVariant (w o cases whole : ℕ) : Type 0 where
  front : w ≤ o
  behind : o + cases ≤ whole

variant_is : (ps : Parts) → IsVariant (discriminant_size (count ps)) (case_offset ps) (most_size ps) (item_size (Variant ps))
variant_is ps = record { front = omega arith; behind = omega arith }

-- ## Its own bytes alone

mutual
  unfolding decode

  pub decode-take : (t : ItemType) (bytes : List ℕ) (k : ℕ) → item_size t ≤ k → decode t (take k bytes) ≡ decode t bytes
  decode-take (Plain s) bytes k h = rw (take-take (size_of s) k bytes h) refl
  decode-take (Flags n) bytes k h = rw (take-take (flags_size n) k bytes h) refl
  decode-take (Record ps) bytes k h = decode_parts-take 0 ps bytes k (fields_within (end_of 0 ps) (most_align ps) k h)
  decode-take (Variant ps) bytes k h =
      let w = discriminant_size (count ps) in
      let o = case_offset ps in
      let v = variant_is ps in
      let number : take w (take k bytes) ≡ take w bytes = take-take w k bytes (omega (arith, v.front, v.behind, h)) in
      let value : drop o (take k bytes) ≡ take (k - o) (drop o bytes) = drop_front k o bytes (omega (arith, v.behind, h)) in
      rw (number, value, decode_case-take ps (le (take w bytes)) (drop o bytes) (k - o) (omega (arith, v.behind, h))) refl

  decode_parts-take : (at : ℕ) (ps : Parts) (bytes : List ℕ) (k : ℕ) → end_of at ps ≤ at + k → decode_parts at ps (take k bytes) ≡ decode_parts at ps bytes
  decode_parts-take at no_parts bytes k h = refl
  decode_parts-take at (part t ps) bytes k h =
      let gap = gap_before at (align_of t) in
      let w = item_size t in
      let room : gap + w ≤ k = omega (arith, le-end_of (at + gap + w) ps) in
      let here : drop gap (take k bytes) ≡ take (k - gap) (drop gap bytes) = drop_front k gap bytes (omega arith) in
      let behind : drop (gap + w) (take k bytes) ≡ take (k - (gap + w)) (drop (gap + w) bytes) = drop_front k (gap + w) bytes room in
      rw (here, behind, decode-take t (drop gap bytes) (k - gap) (omega arith), decode_parts-take (at + gap + w) ps (drop (gap + w) bytes) (k - (gap + w)) (omega arith)) refl

  decode_case-take : (ps : Parts) (d : ℕ) (bytes : List ℕ) (k : ℕ) → most_size ps ≤ k → decode_case ps d (take k bytes) ≡ decode_case ps d bytes
  decode_case-take no_parts d bytes k h = refl
  decode_case-take (part t ps) zero bytes k h = decode-take t bytes k (omega arith)
  decode_case-take (part t ps) (suc d) bytes k h = decode_case-take ps d bytes k (omega arith)

mutual
  unfolding encode

  pub length-encode : (t : ItemType) (bytes : List ℕ) (xs : List ℤ) → item_size t ≤ length bytes → length (encode t bytes xs) ≡ length bytes
  length-encode (Plain s) bytes [] h = refl
  length-encode (Plain s) bytes (x ∷ xs) h = rw (length-append, length-to_le (size_of s) (lowered s x), length-drop) (omega arith)
  length-encode (Flags n) bytes [] h = refl
  length-encode (Flags n) bytes (x ∷ xs) h = rw (length-append, length-to_le (flags_size n) (magnitude x), length-drop) (omega arith)
  length-encode (Record ps) bytes xs h = length-encode_parts 0 ps bytes xs (fields_within (end_of 0 ps) (most_align ps) (length bytes) h)
  length-encode (Variant ps) bytes [] h = refl
  length-encode (Variant ps) bytes (d ∷ xs) h =
      let w = discriminant_size (count ps) in
      let o = case_offset ps in
      let v = variant_is ps in
      let value = length-encode_case ps (magnitude d) (drop o bytes) xs (omega (arith, v.behind, h, length-drop o bytes)) in
      let padding : length (take (o - w) (drop w bytes)) ≡ o - w = length-take-le (o - w) (drop w bytes) (omega (arith, v.front, v.behind, h, length-drop w bytes)) in
      rw (length-append, length-append, length-to_le w (magnitude d), padding, value, length-drop) (omega (arith, v.front, v.behind, h))

  pub length-encode_parts : (at : ℕ) (ps : Parts) (bytes : List ℕ) (xs : List ℤ) → end_of at ps ≤ at + length bytes → length (encode_parts at ps bytes xs) ≡ length bytes
  length-encode_parts at no_parts bytes xs h = refl
  length-encode_parts at (part t ps) bytes xs h =
      let gap = gap_before at (align_of t) in
      let w = item_size t in
      let room : gap + w ≤ length bytes = omega (arith, le-end_of (at + gap + w) ps) in
      let item = length-encode t (drop gap bytes) xs (omega (arith, length-drop gap bytes)) in
      let here : length (take w (encode t (drop gap bytes) xs)) ≡ w = length-take-le w (encode t (drop gap bytes) xs) (omega (arith, item, length-drop gap bytes)) in
      let rest = length-encode_parts (at + gap + w) ps (drop (gap + w) bytes) (left t xs) (omega (arith, length-drop (gap + w) bytes)) in
      rw (length-append, length-append, length-take-le gap bytes (omega arith), here, rest, length-drop) (omega arith)

  length-encode_case : (ps : Parts) (d : ℕ) (bytes : List ℕ) (xs : List ℤ) → most_size ps ≤ length bytes → length (encode_case ps d bytes xs) ≡ length bytes
  length-encode_case no_parts d bytes xs h = refl
  length-encode_case (part t ps) zero bytes xs h = length-encode t bytes xs (omega arith)
  length-encode_case (part t ps) (suc d) bytes xs h = length-encode_case ps d bytes xs (omega arith)

-- the discriminant and the padding behind it
head_of : (w o d : ℕ) (bytes : List ℕ) → w ≤ o → o ≤ length bytes → length (to_le w d ++ take (o - w) (drop w bytes)) ≡ o
head_of w o d bytes h l = rw (length-append, length-to_le w d, length-take-le (o - w) (drop w bytes) (omega (arith, length-drop w bytes))) (omega arith)

-- a field and what lies before it
front_of : (gap w : ℕ) (bytes item : List ℕ) → gap ≤ length bytes → w ≤ length item → length (take gap bytes ++ take w item) ≡ gap + w
front_of gap w bytes item h l = rw (length-append, length-take-le gap bytes h, length-take-le w item l) refl

mutual
  unfolding encode

  pub drop-encode : (t : ItemType) (bytes : List ℕ) (xs : List ℤ) (k : ℕ) → item_size t ≤ length bytes → item_size t ≤ k → drop k (encode t bytes xs) ≡ drop k bytes
  drop-encode (Plain s) bytes [] k h l = refl
  drop-encode (Plain s) bytes (x ∷ xs) k h l = drop_past (to_le (size_of s) (lowered s x)) bytes (size_of s) k (length-to_le (size_of s) (lowered s x)) l
  drop-encode (Flags n) bytes [] k h l = refl
  drop-encode (Flags n) bytes (x ∷ xs) k h l = drop_past (to_le (flags_size n) (magnitude x)) bytes (flags_size n) k (length-to_le (flags_size n) (magnitude x)) l
  drop-encode (Record ps) bytes xs k h l = drop-encode_parts 0 ps bytes xs k (fields_within (end_of 0 ps) (most_align ps) (length bytes) h) (fields_within (end_of 0 ps) (most_align ps) k l)
  drop-encode (Variant ps) bytes [] k h l = refl
  drop-encode (Variant ps) bytes (d ∷ xs) k h l =
      let w = discriminant_size (count ps) in
      let o = case_offset ps in
      let v = variant_is ps in
      let value = drop-encode_case ps (magnitude d) (drop o bytes) xs (k - o) (omega (arith, v.behind, h, length-drop o bytes)) (omega (arith, v.behind, l)) in
      let head = head_of w o (magnitude d) bytes v.front (omega (arith, v.behind, h)) in
      drop_past_new (to_le w (magnitude d) ++ take (o - w) (drop w bytes)) (encode_case ps (magnitude d) (drop o bytes) xs) bytes o k head (omega (arith, v.behind, l)) value

  drop-encode_parts : (at : ℕ) (ps : Parts) (bytes : List ℕ) (xs : List ℤ) (k : ℕ) → end_of at ps ≤ at + length bytes → end_of at ps ≤ at + k → drop k (encode_parts at ps bytes xs) ≡ drop k bytes
  drop-encode_parts at no_parts bytes xs k h l = refl
  drop-encode_parts at (part t ps) bytes xs k h l =
      let gap = gap_before at (align_of t) in
      let w = item_size t in
      let past = le-end_of (at + gap + w) ps in
      let item = encode t (drop gap bytes) xs in
      let more = encode_parts (at + gap + w) ps (drop (gap + w) bytes) (left t xs) in
      let long : length item ≡ length (drop gap bytes) = length-encode t (drop gap bytes) xs (omega (arith, past, length-drop gap bytes)) in
      let front = front_of gap w bytes item (omega (arith, past)) (omega (arith, long, past, length-drop gap bytes)) in
      let rest = drop-encode_parts (at + gap + w) ps (drop (gap + w) bytes) (left t xs) (k - (gap + w)) (omega (arith, length-drop (gap + w) bytes)) (omega (arith, past)) in
      drop_past_new (take gap bytes ++ take w item) more bytes (gap + w) k front (omega (arith, past)) rest

  drop-encode_case : (ps : Parts) (d : ℕ) (bytes : List ℕ) (xs : List ℤ) (k : ℕ) → most_size ps ≤ length bytes → most_size ps ≤ k → drop k (encode_case ps d bytes xs) ≡ drop k bytes
  drop-encode_case no_parts d bytes xs k h l = refl
  drop-encode_case (part t ps) zero bytes xs k h l = drop-encode t bytes xs k (omega arith) (omega arith)
  drop-encode_case (part t ps) (suc d) bytes xs k h l = drop-encode_case ps d bytes xs k (omega arith) (omega arith)

-- ## Stored and loaded again

below : (limit : ℕ) (x : ℤ) → IsBelow limit x → (n : ℕ) × (x ≡ pos n) × (n < limit)
below limit (pos n) (a, b) = (n, refl, omega (arith, ints))
below limit (negsuc n) (a, b) = absurd (omega (arith, ints))

below_is : (limit n : ℕ) → n < limit → IsBelow limit (pos n)
below_is limit n h = (omega (arith, ints), omega (arith, ints))

-- so many flags have room in their bytes
flags_room : (n : ℕ) → flags_limit n ≤ 256 ^ flags_size n
flags_room n =
    elim (cases_lt n 9) [
      | inl a ↦ (let few : min n 32 ≤ 8 = omega arith in rw (lt-ltb n 9 a) (pow_mono few))
      | inr a ↦ elim (cases_lt n 17) [
        | inl b ↦ (let few : min n 32 ≤ 16 = omega arith in rw (le-ltb n 9 a, lt-ltb n 17 b) (pow_mono few))
        | inr b ↦ (let few : min n 32 ≤ 32 = omega arith in rw (le-ltb n 9 a, le-ltb n 17 b) (pow_mono few))
      ]
    ]

-- these numbers before those that are left
abbrev before_left : List ℤ → Option (List ℤ) → Option (List ℤ)
before_left more o = option_map (λ ys. ys ++ more) o

cons_again : (o : Option (List ℤ)) (more xs : List ℤ) (x : ℤ) → before_left more o ≡ Some xs → before_left more (option_map (λ ys. x ∷ ys) o) ≡ Some (x ∷ xs)
cons_again None more xs x e = cc
cons_again (Some ys) more xs x e = ap (option_map (λ zs. x ∷ zs)) e

both_again : (o p : Option (List ℤ)) (more last xs : List ℤ) → before_left more o ≡ Some xs → before_left last p ≡ Some more → before_left last (both o p) ≡ Some xs
both_again None p more last xs e f = cc
both_again (Some us) None more last xs e f = cc
both_again (Some us) (Some vs) more last xs e f =
    let g : vs ++ last ≡ more = cc in
    ap Some (append_assoc us vs last) ∙ ap (λ l. Some (us ++ l)) g ∙ e

flags_again : (n m : ℕ) (rest xs : List ℕ) → m < flags_limit n → le (take (flags_size n) (to_le (flags_size n) m ++ rest)) % flags_limit n ≡ m
flags_again n m rest xs h =
    rw (take_at (to_le (flags_size n) m) rest (flags_size n) (length-to_le (flags_size n) m), le-to_le (flags_size n) m (omega (arith, h, flags_room n))) (mod-eq_of_lt h)

module _ (ps : Parts) (m : ℕ) (bytes : List ℕ) (xs : List ℤ)
    (small : m < discriminant_limit ps) (h : item_size (Variant ps) ≤ length bytes)
    (e : before_left (left_case ps m xs) (decode_case ps m (encode_case ps m (drop (case_offset ps) bytes) xs)) ≡ Some xs) where
  variant_again : before_left (left_case ps m xs) (decode (Variant ps) (encode (Variant ps) bytes (pos m ∷ xs))) ≡ Some (pos m ∷ xs)
  unfolding decode encode
  variant_again =
      let w = discriminant_size (count ps) in
      let o = case_offset ps in
      let v = variant_is ps in
      let padding = take (o - w) (drop w bytes) in
      let value = encode_case ps m (drop o bytes) xs in
      let number : take w (to_le w m ++ padding ++ value) ≡ to_le w m = rw append_assoc (take_at (to_le w m) (padding ++ value) w (length-to_le w m)) in
      let behind : drop o (to_le w m ++ padding ++ value) ≡ value = drop_at (to_le w m ++ padding) value o (head_of w o m bytes v.front (omega (arith, v.behind, h))) in
      rw (number, behind, le-to_le w m small) (cons_again (decode_case ps m value) (left_case ps m xs) xs (pos m) e)

mutual
  unfolding decode encode

  pub loads_again : (t : ItemType) (bytes : List ℕ) (xs : List ℤ) → Begins t xs → item_size t ≤ length bytes → before_left (left t xs) (decode t (encode t bytes xs)) ≡ Some xs
  loads_again (Plain s) bytes [] b h = absurd b
  loads_again (Plain s) bytes (x ∷ xs) b h =
      let r : IsLifted s x = IsLifted-fits s x b in
      rw (take_at (to_le (size_of s) (lowered s x)) (drop (size_of s) bytes) (size_of s) (length-to_le (size_of s) (lowered s x)), le-to_le (size_of s) (lowered s x) r.small, r.again) refl
  loads_again (Flags n) bytes [] b h = absurd b
  loads_again (Flags n) bytes (pos m ∷ xs) b h =
      let small : m < flags_limit n = omega (arith, ints, b.1) in
      rw (flags_again n m (drop (flags_size n) bytes) [] small) refl
  loads_again (Flags n) bytes (negsuc m ∷ xs) b h = absurd (omega (arith, ints, b.0))
  loads_again (Record ps) bytes xs b h = loads_again_fields 0 ps bytes xs b (fields_within (end_of 0 ps) (most_align ps) (length bytes) h)
  loads_again (Variant ps) bytes [] b h = absurd b
  loads_again (Variant ps) bytes (pos m ∷ xs) b h =
      let v = variant_is ps in
      let small : m < discriminant_limit ps = omega (arith, ints, b.0.1) in
      let e = loads_again_case ps m (drop (case_offset ps) bytes) xs b.1 (omega (arith, v.behind, h, length-drop (case_offset ps) bytes)) in
      variant_again ps m bytes xs small h e
  loads_again (Variant ps) bytes (negsuc m ∷ xs) b h = absurd (omega (arith, ints, b.0.0))

  loads_again_fields : (at : ℕ) (ps : Parts) (bytes : List ℕ) (xs : List ℤ) → BeginFields ps xs → end_of at ps ≤ at + length bytes → before_left (left_fields ps xs) (decode_parts at ps (encode_parts at ps bytes xs)) ≡ Some xs
  loads_again_fields at no_parts bytes xs b h = refl
  loads_again_fields at (part t ps) bytes xs b h =
      let gap = gap_before at (align_of t) in
      let w = item_size t in
      let past = le-end_of (at + gap + w) ps in
      let item = encode t (drop gap bytes) xs in
      let more = encode_parts (at + gap + w) ps (drop (gap + w) bytes) (left t xs) in
      let long : length item ≡ length (drop gap bytes) = length-encode t (drop gap bytes) xs (omega (arith, past, length-drop gap bytes)) in
      let room : w ≤ length item = omega (arith, long, past, length-drop gap bytes) in
      let front : length (take gap bytes) ≡ gap = length-take-le gap bytes (omega (arith, past)) in
      let here : drop gap (take gap bytes ++ take w item ++ more) ≡ take w item ++ more = rw append_assoc (drop_at (take gap bytes) (take w item ++ more) gap front) in
      let behind : drop (gap + w) (take gap bytes ++ take w item ++ more) ≡ more = drop_at (take gap bytes ++ take w item) more (gap + w) (front_of gap w bytes item (omega (arith, past)) room) in
      let own : decode t (take w item ++ more) ≡ decode t item =
      sym (decode-take t (take w item ++ more) w (omega arith)) ∙ ap (decode t) (take_at (take w item) more w (length-take-le w item room)) ∙ decode-take t item w (omega arith) in
      let first = loads_again t (drop gap bytes) xs b.0 (omega (arith, past, length-drop gap bytes)) in
      let rest = loads_again_fields (at + gap + w) ps (drop (gap + w) bytes) (left t xs) b.1 (omega (arith, length-drop (gap + w) bytes)) in
      rw (here, behind, own) (both_again (decode t item) (decode_parts (at + gap + w) ps more) (left t xs) (left_fields ps (left t xs)) xs first rest)

  loads_again_case : (ps : Parts) (d : ℕ) (bytes : List ℕ) (xs : List ℤ) → BeginsCase ps d xs → most_size ps ≤ length bytes → before_left (left_case ps d xs) (decode_case ps d (encode_case ps d bytes xs)) ≡ Some xs
  loads_again_case no_parts d bytes xs b h = absurd b
  loads_again_case (part t ps) zero bytes xs b h = loads_again t bytes xs b (omega arith)
  loads_again_case (part t ps) (suc d) bytes xs b h = loads_again_case ps d bytes xs b (omega arith)

all_of_it : (o : Option (List ℤ)) (more xs : List ℤ) → more ≡ [] → before_left more o ≡ Some xs → o ≡ Some xs
all_of_it None more xs e f = cc
all_of_it (Some ys) more xs e f = let g : ys ++ [] ≡ xs = rw e at (let u : ys ++ more ≡ xs = cc in u) in ap Some (sym (append-nil ys) ∙ g)

-- an item that was stored is loaded again
pub decode-encode : (t : ItemType) (bytes : List ℕ) (xs : List ℤ) → FitsItem t xs → item_size t ≤ length bytes → decode t (encode t bytes xs) ≡ Some xs
decode-encode t bytes xs i h = all_of_it (decode t (encode t bytes xs)) (left t xs) xs i.all (loads_again t bytes xs i.begins h)

-- ## What is loaded is an item

-- the numbers begin with an item, before these
record Begun (t : ItemType) (xs more : List ℤ) : Type 0 where
  begins : Begins t xs
  before : left t xs ≡ more

record FieldsBegun (ps : Parts) (xs more : List ℤ) : Type 0 where
  begins : BeginFields ps xs
  before : left_fields ps xs ≡ more

record CaseBegun (ps : Parts) (d : ℕ) (xs more : List ℤ) : Type 0 where
  begins : BeginsCase ps d xs
  before : left_case ps d xs ≡ more

first_then : (t : ItemType) (ps : Parts) (us vs more : List ℤ) → Begun t (us ++ (vs ++ more)) (vs ++ more) → FieldsBegun ps (vs ++ more) more → FieldsBegun (part t ps) ((us ++ vs) ++ more) more
first_then t ps us vs more b c =
    subst (λ xs. FieldsBegun (part t ps) xs more) (sym (append_assoc us vs more))
    (record { begins = (b.begins, subst (BeginFields ps) (sym b.before) c.begins); before = ap (left_fields ps) b.before ∙ c.before })

mutual
  unfolding decode

  loads_item : (t : ItemType) (bytes : List ℕ) (ys more : List ℤ) → IsBytes bytes → decode t bytes ≡ Some ys → Begun t (ys ++ more) more
  loads_item (Plain s) bytes ys more h e =
      option_map_some _ (lifted s (le (take (size_of s) bytes))) ys e
      (λ x p q. subst (λ zs. Begun (Plain s) (zs ++ more) more) q
      (record { begins = FitsScalar-lifted s (le (take (size_of s) bytes)) x (le-take-lt (size_of s) bytes h) p; before = refl }))
  loads_item (Flags n) bytes ys more h e =
      let m = le (take (flags_size n) bytes) in
      let q : pos (m % flags_limit n) ∷ [] ≡ ys = cc in
      subst (λ zs. Begun (Flags n) (zs ++ more) more) q
      (record { begins = below_is (flags_limit n) (m % flags_limit n) (mod-lt m (one-le-pow (min n 32) 2 (omega arith))); before = refl })
  loads_item (Record ps) bytes ys more h e =
      let b = loads_fields 0 ps bytes ys more h e in
      record { begins = b.begins; before = b.before }
  loads_item (Variant ps) bytes ys more h e =
      let w = discriminant_size (count ps) in
      let d = le (take w bytes) in
      option_map_some _ (decode_case ps d (drop (case_offset ps) bytes)) ys e
      (λ us p q.
      let b = loads_case ps d (drop (case_offset ps) bytes) us more (IsBytes-drop bytes (case_offset ps) h) p in
      subst (λ zs. Begun (Variant ps) (zs ++ more) more) q
      (record { begins = (below_is (discriminant_limit ps) d (le-take-lt w bytes h), b.begins); before = b.before }))

  loads_fields : (at : ℕ) (ps : Parts) (bytes : List ℕ) (ys more : List ℤ) → IsBytes bytes → decode_parts at ps bytes ≡ Some ys → FieldsBegun ps (ys ++ more) more
  loads_fields at no_parts bytes ys more h e = let q : [] ≡ ys = cc in subst (λ zs. FieldsBegun no_parts (zs ++ more) more) q (record { begins = tt; before = refl })
  loads_fields at (part t ps) bytes ys more h e =
      let gap = gap_before at (align_of t) in
      let w = item_size t in
      option_and_then_some _ (decode t (drop gap bytes)) ys e
      (λ us p q. option_map_some _ (decode_parts (at + gap + w) ps (drop (gap + w) bytes)) ys q
      (λ vs u v.
      let b = loads_item t (drop gap bytes) us (vs ++ more) (IsBytes-drop bytes gap h) p in
      let c = loads_fields (at + gap + w) ps (drop (gap + w) bytes) vs more (IsBytes-drop bytes (gap + w) h) u in
      subst (λ zs. FieldsBegun (part t ps) (zs ++ more) more) v (first_then t ps us vs more b c)))

  loads_case : (ps : Parts) (d : ℕ) (bytes : List ℕ) (ys more : List ℤ) → IsBytes bytes → decode_case ps d bytes ≡ Some ys → CaseBegun ps d (ys ++ more) more
  loads_case no_parts d bytes ys more h e = cc
  loads_case (part t ps) zero bytes ys more h e =
      let b = loads_item t bytes ys more h e in
      record { begins = b.begins; before = b.before }
  loads_case (part t ps) (suc d) bytes ys more h e =
      let b = loads_case ps d bytes ys more h e in
      record { begins = b.begins; before = b.before }

pub FitsItem-decode : (t : ItemType) (bytes : List ℕ) (xs : List ℤ) → IsBytes bytes → decode t bytes ≡ Some xs → FitsItem t xs
FitsItem-decode t bytes xs h e =
    let b = loads_item t bytes xs [] h e in
    let same : xs ++ [] ≡ xs = append-nil xs in
    record { begins = subst (Begins t) same b.begins; all = subst (λ zs. left t zs ≡ []) same b.before }
