-- A type is entered that is stored: its own number, and the parts behind it.
use Rattle.std.proofs.Common.{◌≡◌, ℕ, zero, suc, ◌+◌, ◌<◌, ◌≤◌, ◌-◌, ◌%◌, ℤ, pos, List, [], ◌∷◌, ◌++◌, length, take, drop, get_or, refl, sym, subst, ap, ◌∙◌, append_assoc, arith, length-append, length-drop}
use Rattle.std.proofs.lemmas.List.{drop-drop, length-take-le, take-append-drop}
use Rattle.std.proofs.Math.Seq.{take-add, take-append-add, drop-append-add}
use Rattle.strm_codes.specs.Scalars.{size_of, magnitude}
use Rattle.strm_codes.specs.Offsets.{gap_before}
use Rattle.strm_codes.specs.declared.scalars.Scalar.{Scalar}
use Rattle.strm_memory.specs.Bytes.{to_le, put_at}
use Rattle.strm_memory.specs.Numbers.{lowered}
use Rattle.strm_codes.specs.ItemTypes.{ItemType, Plain, Flags, Record, Variant, Parts, no_parts, part, count, flags_size, rounded, align_of, most_align, item_size, end_of, most_size}
use Rattle.strm_codes.specs.Spellings.{unit, units, taken, arity, type_with, spelled, behind}
use Rattle.strm_codes.specs.Begins.{left, left_fields, left_case, Begins, BeginFields}
use Rattle.strm_memory.specs.Loads.{encode, encode_parts, encode_case}
use Rattle.strm_memory.specs.Walks.{from_on, item_on, fields_on, IsEntered, EntersStore}
use Rattle.strm_codes.specs.declared.nodes.Node.{Node}
use Rattle.strm_codes.specs.declared.nodes.Node.TheVariants as node
use Rattle.strm_codes.specs.declared.insides.Inside.{Inside}
use Rattle.strm_codes.specs.declared.insides.Entered.{Entered}
use Rattle.strm_memory.proofs.ByteLemmas.{length-to_le, length-put_at}
use Rattle.strm_memory.proofs.LoadLemmas.{le-end_of, drop-encode, length-encode, length-encode_parts}
use Rattle.strm_codes.proofs.SpellingLemmas.{count-units, count-taken, spelled-behind, taken_first}
use Rattle.strm_memory.proofs.StepLemmas.{IsStep, first_room, end_of_first}
use Rattle.strm_codes.proofs.BeginLemmas.{one_byte, left_case-taken, left_case-units, case-taken, HasCase, has_case}
use Rattle.strm_memory.proofs.WalkLemmas.{no_gap, most_taken}

-- ## Bytes

-- bytes put, as those before them and those from them on
put_is : (m : List ℕ) (from w : ℕ) (new : List ℕ) → length new ≡ w → put_at m from new ≡ take from m ++ (new ++ drop w (drop from m))
put_is m from w new e =
    append_assoc (take from m) new (drop (from + length new) m)
    ∙ ap (λ k. take from m ++ (new ++ drop (from + k) m)) e
    ∙ ap (λ l. take from m ++ (new ++ l)) (sym (drop-drop w from m))

-- after one item, whatever F does with the bytes behind it
sweep_more : (m : List ℕ) (at w : ℕ) (e : List ℕ) (F : List ℕ → List ℕ) → at ≤ length m → from_on F (at + w) (take at m ++ e) ≡ take at m ++ (take w e ++ F (drop w e))
sweep_more m at w e F h =
    let n : length (take at m) ≡ at = length-take-le at m h in
    let s : at + w ≡ length (take at m) + w = omega (arith, n) in
    let t : take (at + w) (take at m ++ e) ≡ take at m ++ take w e = rw s (take-append-add (take at m) e w) in
    let u : drop (at + w) (take at m ++ e) ≡ drop w e = rw s (drop-append-add (take at m) e w) in
    rw (t, u) (append_assoc (take at m) (take w e) (F (drop w e)))

-- ## One field alone, and one case

pub encode-one : (t : ItemType) (bytes : List ℕ) (xs : List ℤ) → item_size t ≤ length bytes → encode_parts 0 (part t no_parts) bytes xs ≡ encode t bytes xs
unfolding encode
encode-one t bytes xs h =
    let w = item_size t in
    let item = encode t bytes xs in
    let z : 0 + 0 + w ≡ w = omega arith in
    let y : 0 + w ≡ w = omega arith in
    let rest : drop w item ≡ drop w bytes = drop-encode t bytes xs w h (omega arith) in
    rw (no_gap (align_of t), y) (ap (λ r. take w item ++ r) (sym rest) ∙ take-append-drop w item)

encode_case-taken : (n d : ℕ) (ts : List ItemType) (bytes : List ℕ) (xs : List ℤ) → d < n → n ≤ length ts → most_size (taken n ts) ≤ length bytes → encode_case (taken n ts) d bytes xs ≡ encode_parts 0 (taken 1 (drop d ts)) bytes xs
unfolding encode
encode_case-taken zero d ts bytes xs h l r = absurd (omega arith)
encode_case-taken (suc n) d [] bytes xs h l r = absurd (omega arith)
encode_case-taken (suc n) zero (t ∷ ts) bytes xs h l r = sym (encode-one t bytes xs (omega (arith, r)))
encode_case-taken (suc n) (suc d) (t ∷ ts) bytes xs h l r = encode_case-taken n d ts bytes xs (omega (arith, h)) (omega (arith, l)) (omega (arith, r))

encode_case-units : (n d : ℕ) (bytes : List ℕ) (xs : List ℤ) → encode_case (units n) d bytes xs ≡ bytes
unfolding encode
encode_case-units zero d bytes xs = refl
encode_case-units (suc n) zero bytes xs = refl
encode_case-units (suc n) (suc d) bytes xs = encode_case-units n d bytes xs

-- ## One type entered

-- a type whose numbers and bytes are its own alone
leaf_same : (t : ItemType) (xs : List ℤ) (old new own : List ℕ) (from w n : ℕ) → length own ≡ w → encode t (drop from old) xs ≡ own ++ drop w (drop from old) → new ≡ put_at old from own → item_on t xs from old ≡ fields_on 0 no_parts (drop n xs) (from + 0) new
unfolding encode
leaf_same t xs old new own from w n l e p =
    ap (λ b. take from old ++ b) e ∙ sym (put_is old from w own l) ∙ sym p ∙ sym (take-append-drop (from + 0) new)

long_put : (old new own : List ℕ) (from w : ℕ) → length own ≡ w → new ≡ put_at old from own → from + w ≤ length old → length new ≡ length old
long_put old new own from w l p h = rw p (length-put_at old from own (omega (arith, l, h)))

-- a type that is entered and took no number
same_place : (F : List ℕ → List ℕ) (from : ℕ) (old : List ℕ) → from_on F from old ≡ from_on F (from + 0) old
same_place F from old = let z : from ≡ from + 0 = omega arith in ap (λ k. from_on F k old) z

pub entered_record : (ps : Parts) (xs : List ℤ) (old : List ℕ) (from : ℕ) → BeginFields ps xs → IsEntered (Record ps) ps xs old old from 0 0
unfolding encode
entered_record ps xs old from b =
    record {
      same = same_place (λ b. encode_parts 0 ps b xs) from old;
      rest = refl;
      begins = b;
      room = omega arith;
      long = refl;
      few = omega arith;
    }

pub entered_plain : (s : Scalar) (xs : List ℤ) (old new : List ℕ) (from : ℕ) → Begins (Plain s) xs → new ≡ put_at old from (to_le (size_of s) (lowered s (get_or xs 0 (pos 0)))) → from + size_of s ≤ length old → IsEntered (Plain s) no_parts xs old new from 0 1
unfolding encode
entered_plain s [] old new from b p h = absurd b
entered_plain s (x ∷ xs) old new from b p h =
    let own = to_le (size_of s) (lowered s x) in
    let l : length own ≡ size_of s = length-to_le (size_of s) (lowered s x) in
    record {
      same = leaf_same (Plain s) (x ∷ xs) old new own from (size_of s) 1 l refl p;
      rest = refl;
      begins = tt;
      room = omega arith;
      long = long_put old new own from (size_of s) l p h;
      few = omega arith;
    }

pub entered_flags : (n : ℕ) (xs : List ℤ) (old new : List ℕ) (from : ℕ) → Begins (Flags n) xs → new ≡ put_at old from (to_le (flags_size n) (magnitude (get_or xs 0 (pos 0)))) → from + flags_size n ≤ length old → IsEntered (Flags n) no_parts xs old new from 0 1
unfolding encode
entered_flags n [] old new from b p h = absurd b
entered_flags n (x ∷ xs) old new from b p h =
    let own = to_le (flags_size n) (magnitude x) in
    let l : length own ≡ flags_size n = length-to_le (flags_size n) (magnitude x) in
    record {
      same = leaf_same (Flags n) (x ∷ xs) old new own from (flags_size n) 1 l refl p;
      rest = refl;
      begins = tt;
      room = omega arith;
      long = long_put old new own from (flags_size n) l p h;
      few = omega arith;
    }

-- a variant's bytes, where the number of its case has one
abbrev variant_bytes : Parts → List ℤ → ℕ → ℕ → List ℕ → List ℕ
variant_bytes ps xs d w bytes =
    let o = rounded w (most_align ps) in
    to_le w d ++ take (o - w) (drop w bytes) ++ encode_case ps d (drop o bytes) xs

-- what is stored of a variant once the number of its case is: that of its value
module _ (ps inside : Parts) (xs : List ℤ) (old new : List ℕ) (from d : ℕ)
    (few : count ps ≤ 256) (h : from ≤ length old) (p : new ≡ put_at old from (to_le 1 d))
    (value : (b : List ℕ) → b ≡ drop (rounded 1 (most_align ps)) (drop from old) → encode_case ps d b xs ≡ encode_parts 0 inside b xs) where
  variant_same : item_on (Variant ps) (pos d ∷ xs) from old ≡ fields_on 0 inside xs (from + rounded 1 (most_align ps)) new
  unfolding encode
  variant_same =
      let a = rounded 1 (most_align ps) in
      let bytes = drop from old in
      let F : List ℕ → List ℕ = λ b. encode_parts 0 inside b xs in
      let e : List ℕ = d % 256 ∷ drop 1 bytes in
      let up : a ≡ suc (a - 1) = omega arith in
      let down : 1 + (a - 1) ≡ a = omega arith in
      let behind : drop a e ≡ drop a bytes = ap (λ k. drop k e) up ∙ drop-drop (a - 1) 1 bytes ∙ ap (λ k. drop k bytes) down in
      let front : take a e ≡ d % 256 ∷ take (a - 1) (drop 1 bytes) = ap (λ k. take k e) up in
      let is : new ≡ take from old ++ e = p ∙ put_is old from 1 (to_le 1 d) (length-to_le 1 d) in
      let all : from_on F (from + a) new ≡ take from old ++ (take a e ++ F (drop a e)) = ap (from_on F (from + a)) is ∙ sweep_more old from a e F h in
      ap (λ w. take from old ++ variant_bytes ps xs d w bytes) (one_byte (count ps) few)
      ∙ ap (λ v. take from old ++ ((d % 256 ∷ take (a - 1) (drop 1 bytes)) ++ v)) (value (drop a bytes) refl)
      ∙ sym (all ∙ ap (λ b. take from old ++ (take a e ++ F b)) behind ∙ ap (λ f. take from old ++ (f ++ F (drop a bytes))) front)

-- a variant has a byte for the number of its case, and its value behind
variant_room : (ps inside : Parts) → count ps ≤ 256 → end_of 0 inside ≤ most_size ps → rounded 1 (most_align ps) + end_of 0 inside ≤ item_size (Variant ps)
variant_room ps inside few h = let w = one_byte (count ps) few in rw w (omega (arith, h))

-- a variant that is entered, whatever is left of it
module _ (ps inside : Parts) (xs : List ℤ) (old new : List ℕ) (from offset d : ℕ)
    (few : count ps ≤ 256) (h : from + item_size (Variant ps) ≤ length old) (b : Begins (Variant ps) xs) (ed : d ≡ magnitude (get_or xs 0 (pos 0))) (p : new ≡ put_at old from (to_le 1 d))
    (eo : offset ≡ rounded 1 (most_align ps)) (end : end_of 0 inside ≤ most_size ps) (value_begins : BeginFields inside (drop 1 xs))
    (value_left : left_case ps d (drop 1 xs) ≡ left_fields inside (drop 1 xs)) (value : (b : List ℕ) → most_size ps ≤ length b → encode_case ps d b (drop 1 xs) ≡ encode_parts 0 inside b (drop 1 xs)) where
  entered_variant : IsEntered (Variant ps) inside xs old new from offset 1
  entered_variant =
      let c : HasCase ps xs d = subst (HasCase ps xs) (sym ed) (has_case ps xs few b) in
      let a = rounded 1 (most_align ps) in
      let whole : a + most_size ps ≤ item_size (Variant ps) = (let w = one_byte (count ps) few in rw w (omega arith)) in
      let one : length xs ≡ suc (length (drop 1 xs)) = ap length c.whole in
      let stored = variant_same ps inside (drop 1 xs) old new from d few (omega (arith, h)) p
      (λ v e. value v (rw (e, length-drop, length-drop) (omega (arith, h, whole)))) in
      record {
        same = ap (λ ys. item_on (Variant ps) ys from old) c.whole ∙ stored ∙ ap (λ k. fields_on 0 inside (drop 1 xs) (from + k) new) (sym eo);
        rest = ap (left (Variant ps)) c.whole ∙ value_left;
        begins = value_begins;
        room = rw eo (variant_room ps inside few end);
        long = long_put old new (to_le 1 d) from 1 (length-to_le 1 d) p (omega (arith, h, whole));
        few = omega (arith, one);
      }

-- a case of so many types
module _ (n : ℕ) (ts : List ItemType) (xs : List ℤ) (old new : List ℕ) (from offset d : ℕ)
    (few : n ≤ 256) (l : n ≤ length ts) (h : from + item_size (Variant (taken n ts)) ≤ length old) (b : Begins (Variant (taken n ts)) xs) (ed : d ≡ magnitude (get_or xs 0 (pos 0)))
    (p : new ≡ put_at old from (to_le 1 d)) (eo : offset ≡ rounded 1 (most_align (taken n ts))) where
  pub entered_taken : IsEntered (Variant (taken n ts)) (taken 1 (drop d ts)) xs old new from offset 1 × (d < n)
  entered_taken =
      let ps = taken n ts in
      let small : count ps ≤ 256 = omega (arith, count-taken n ts l, few) in
      let c : HasCase ps xs d = subst (HasCase ps xs) (sym ed) (has_case ps xs small b) in
      let i = case-taken n d ts (drop 1 xs) l c.value in (
        entered_variant ps (taken 1 (drop d ts)) xs old new from offset d small h b ed p eo (most_taken n d ts i.there l) i.begins (left_case-taken n d ts (drop 1 xs) i.there l)
            (λ v r. encode_case-taken n d ts v (drop 1 xs) i.there l r),
        i.there,
      )

nothing_anywhere : (k m : ℕ) (bytes : List ℕ) (ys : List ℤ) → fields_on 0 no_parts ys k bytes ≡ fields_on 0 no_parts ys m bytes
unfolding encode
nothing_anywhere k m bytes ys = take-append-drop k bytes ∙ sym (take-append-drop m bytes)

units_stored : (n d : ℕ) (bytes : List ℕ) (ys : List ℤ) → encode_case (units n) d bytes ys ≡ encode_parts 0 no_parts bytes ys
unfolding encode
units_stored n d bytes ys = encode_case-units n d bytes ys

unit_alone : (k : ℕ) (bytes : List ℕ) (ys : List ℤ) → fields_on 0 (part unit no_parts) ys k bytes ≡ fields_on 0 no_parts ys k bytes
unfolding encode
unit_alone k bytes ys = ap (λ b. take k bytes ++ b) (encode-one unit (drop k bytes) ys (omega arith))

module _ (n : ℕ) (xs : List ℤ) (old new : List ℕ) (from d : ℕ)
    (few : n ≤ 256) (h : from + item_size (Variant (units n)) ≤ length old) (b : Begins (Variant (units n)) xs) (ed : d ≡ magnitude (get_or xs 0 (pos 0))) (p : new ≡ put_at old from (to_le 1 d)) where
  pub entered_enum : IsEntered (Variant (units n)) no_parts xs old new from 0 1
  entered_enum =
      let ps = units n in
      let small : count ps ≤ 256 = omega (arith, count-units n, few) in
      let e = entered_variant ps no_parts xs old new from (rounded 1 (most_align ps)) d small h b ed p refl (omega arith) tt (left_case-units n d (drop 1 xs)) (λ v r. units_stored n d v (drop 1 xs)) in
      record { same = e.same ∙ nothing_anywhere (from + rounded 1 (most_align ps)) (from + 0) new (drop 1 xs); rest = e.rest; begins = tt; room = omega arith; long = e.long; few = e.few }

-- an option's value, where it is there
module _ (ts : List ItemType) (xs : List ℤ) (old new : List ℕ) (from offset a d : ℕ)
    (l : 1 ≤ length ts) (some : 1 ≤ a) (ea : a ≡ most_align (taken 1 ts)) (h : from + item_size (Variant (taken 2 (unit ∷ ts))) ≤ length old) (b : Begins (Variant (taken 2 (unit ∷ ts))) xs)
    (ed : d ≡ magnitude (get_or xs 0 (pos 0))) (p : new ≡ put_at old from (to_le 1 d)) (eo : offset ≡ rounded 1 a) where
  pub entered_option : IsEntered (Variant (taken 2 (unit ∷ ts))) (taken d ts) xs old new from offset 1 × (d < 2)
  entered_option =
      let align : most_align (taken 2 (unit ∷ ts)) ≡ a = omega (arith, some, ea) in
      let e = entered_taken 2 (unit ∷ ts) xs old new from offset d (omega arith) (omega (arith, l)) h b ed p (eo ∙ ap (rounded 1) (sym align)) in
      (value d e.1 e.0, e.1)
    where
      value : (d : ℕ) → d < 2 → IsEntered (Variant (taken 2 (unit ∷ ts))) (taken 1 (drop d (unit ∷ ts))) xs old new from offset 1 → IsEntered (Variant (taken 2 (unit ∷ ts))) (taken d ts) xs old new from offset 1
      value zero h e = record { same = e.same ∙ unit_alone (from + offset) new (drop 1 xs); rest = e.rest; begins = tt; room = omega (arith, e.room); long = e.long; few = e.few }
      value (suc zero) h e = e
      value (suc (suc d)) h e = absurd (omega arith)

-- ## By the words

-- what is left of a type that took a number: so many types behind so many others, from an offset on
abbrev pub behind_one : ℕ → ℕ → ℕ → Entered
behind_one skipped parts offset = record { inside = record { skipped = skipped; parts = parts; offset = offset }; numbers = 1 }

-- and of one that took none
abbrev pub behind_none : ℕ → Entered
behind_none parts = record { inside = record { skipped = 0; parts = parts; offset = 0 }; numbers = 0 }

pub stores_nothing : (ts : List ItemType) (xs : List ℤ) (old : List ℕ) (from : ℕ) → EntersStore node.Nothing ts xs old old from (behind_none 0)
stores_nothing ts xs old from = record { entered = entered_record no_parts xs old from tt; within = omega arith }

pub stores_tuple : (n : ℕ) (ts : List ItemType) (xs : List ℤ) (old : List ℕ) (from : ℕ) → Begins (Record (taken n ts)) xs → EntersStore (node.Tuple n) ts xs old old from (behind_none n)
stores_tuple n ts xs old from b = record { entered = entered_record (taken n ts) xs old from b; within = omega arith }

pub stores_plain : (s : Scalar) (ts : List ItemType) (xs : List ℤ) (old new : List ℕ) (from : ℕ) → Begins (Plain s) xs → new ≡ put_at old from (to_le (size_of s) (lowered s (get_or xs 0 (pos 0)))) → from + size_of s ≤ length old → EntersStore (node.Plain s) ts xs old new from (behind_one 0 0 0)
stores_plain s ts xs old new from b p h = record { entered = entered_plain s xs old new from b p h; within = omega arith }

pub stores_flags : (n : ℕ) (ts : List ItemType) (xs : List ℤ) (old new : List ℕ) (from : ℕ) → Begins (Flags n) xs → new ≡ put_at old from (to_le (flags_size n) (magnitude (get_or xs 0 (pos 0)))) → from + flags_size n ≤ length old → EntersStore (node.Flags n) ts xs old new from (behind_one 0 0 0)
stores_flags n ts xs old new from b p h = record { entered = entered_flags n xs old new from b p h; within = omega arith }

module _ (n : ℕ) (ts : List ItemType) (xs : List ℤ) (old new : List ℕ) (from : ℕ)
    (few : n ≤ 256) (h : from + item_size (Variant (units n)) ≤ length old) (b : Begins (Variant (units n)) xs) (p : new ≡ put_at old from (to_le 1 (magnitude (get_or xs 0 (pos 0))))) where
  pub stores_enum : EntersStore (node.Enum n) ts xs old new from (behind_one 0 0 0)
  stores_enum = record { entered = entered_enum n xs old new from (magnitude (get_or xs 0 (pos 0))) few h b refl p; within = omega arith }

module _ (ts : List ItemType) (xs : List ℤ) (old new : List ℕ) (from offset a d : ℕ)
    (l : 1 ≤ length ts) (some : 1 ≤ a) (ea : a ≡ most_align (taken 1 ts)) (h : from + item_size (type_with node.Option ts) ≤ length old) (b : Begins (type_with node.Option ts) xs)
    (ed : d ≡ magnitude (get_or xs 0 (pos 0))) (p : new ≡ put_at old from (to_le 1 (magnitude (get_or xs 0 (pos 0))))) (eo : offset ≡ rounded 1 a) where
  pub stores_option : EntersStore node.Option ts xs old new from (behind_one 0 d offset)
  stores_option =
      let e = entered_option ts xs old new from offset a d l some ea h b ed (p ∙ ap (λ k. put_at old from (to_le 1 k)) (sym ed)) eo in
      record { entered = e.0; within = omega (arith, e.1) }

module _ (ts : List ItemType) (xs : List ℤ) (old new : List ℕ) (from offset a d : ℕ)
    (l : 2 ≤ length ts) (ea : a ≡ most_align (taken 2 ts)) (h : from + item_size (type_with node.Result ts) ≤ length old) (b : Begins (type_with node.Result ts) xs)
    (ed : d ≡ magnitude (get_or xs 0 (pos 0))) (p : new ≡ put_at old from (to_le 1 (magnitude (get_or xs 0 (pos 0))))) (eo : offset ≡ rounded 1 a) where
  pub stores_result : EntersStore node.Result ts xs old new from (behind_one d 1 offset)
  stores_result =
      let e = entered_taken 2 ts xs old new from offset d (omega arith) l h b ed (p ∙ ap (λ k. put_at old from (to_le 1 k)) (sym ed)) (eo ∙ ap (rounded 1) ea) in
      record { entered = e.0; within = omega (arith, e.1) }

module _ (n : ℕ) (ts : List ItemType) (xs : List ℤ) (old new : List ℕ) (from offset a d : ℕ)
    (few : n ≤ 256) (l : n ≤ length ts) (ea : a ≡ most_align (taken n ts)) (h : from + item_size (Variant (taken n ts)) ≤ length old) (b : Begins (Variant (taken n ts)) xs)
    (ed : d ≡ magnitude (get_or xs 0 (pos 0))) (p : new ≡ put_at old from (to_le 1 (magnitude (get_or xs 0 (pos 0))))) (eo : offset ≡ rounded 1 a) where
  pub stores_cases : EntersStore (node.Variant n) ts xs old new from (behind_one d 1 offset)
  stores_cases =
      let e = entered_taken n ts xs old new from offset d few l h b ed (p ∙ ap (λ k. put_at old from (to_le 1 k)) (sym ed)) (eo ∙ ap (rounded 1) ea) in
      record { entered = e.0; within = omega (arith, e.1) }

-- there is a byte for the number of a case
pub case_byte : (ps : Parts) → count ps ≤ 256 → 1 ≤ item_size (Variant ps)
case_byte ps few = let w = one_byte (count ps) few in rw w (omega arith)

-- ## One type more, in a walk over the types that words spell

-- one item, and then the fields behind it, by their places
module _ (t : ItemType) (ps : Parts) (at from : ℕ) (xs : List ℤ) (m : List ℕ)
    (room : from + rounded at (align_of t) + item_size t ≤ length m) where
  lowers_here : fields_on (rounded at (align_of t) + item_size t) ps (left t xs) (from + (rounded at (align_of t) + item_size t)) (item_on t xs (from + rounded at (align_of t)) m) ≡ fields_on at (part t ps) xs (from + at) m
  unfolding encode
  lowers_here =
      let gap = gap_before at (align_of t) in
      let w = item_size t in
      let start = at + gap in
      let bytes = drop (from + at) m in
      let here = drop gap bytes in
      let item = encode t here xs in
      let F : List ℕ → List ℕ = λ b. encode_parts (start + w) ps b (left t xs) in
      let place : from + start ≡ from + at + gap = omega arith in
      let next : from + (start + w) ≡ from + start + w = omega arith in
      let is : drop (from + start) m ≡ here = ap (λ k. drop k m) place ∙ sym (drop-drop gap (from + at) m) in
      let front : take (from + start) m ≡ take (from + at) m ++ take gap bytes = ap (λ k. take k m) place ∙ take-add (from + at) gap m in
      let long : w ≤ length here = omega (arith, ap length is, length-drop (from + start) m, room) in
      let rest : drop w item ≡ drop (gap + w) bytes = drop-encode t here xs w long (omega arith) ∙ drop-drop w gap bytes in
      ap (λ k. from_on F k (item_on t xs (from + start) m)) next
      ∙ sweep_more m (from + start) w (encode t (drop (from + start) m) xs) F (omega (arith, room))
      ∙ ap (λ h. take (from + start) m ++ (take w (encode t h xs) ++ F (drop w (encode t h xs)))) is
      ∙ ap (λ l. l ++ (take w item ++ F (drop w item))) front
      ∙ ap (λ r. (take (from + at) m ++ take gap bytes) ++ (take w item ++ F r)) rest
      ∙ simp append_assoc

-- the same by what is known of the places
module _ (t : ItemType) (ps : Parts) (at from start w : ℕ) (xs : List ℤ) (m mid new : List ℕ)
    (es : start ≡ rounded at (align_of t)) (ew : w ≡ item_size t) (room : from + start + w ≤ length m) (em : mid ≡ item_on t xs (from + start) m)
    (en : new ≡ fields_on (start + w) ps (left t xs) (from + (start + w)) mid) where
  pub lowers_on : new ≡ fields_on at (part t ps) xs (from + at) m
  lowers_on =
      let r = rounded at (align_of t) in
      let there : from + r + item_size t ≤ length m = omega (arith, room, es, ew) in
      en
      ∙ ap (fields_on (start + w) ps (left t xs) (from + (start + w))) em
      ∙ ap (λ k. fields_on (k + w) ps (left t xs) (from + (k + w)) (item_on t xs (from + k) m)) es
      ∙ ap (λ v. fields_on (r + v) ps (left t xs) (from + (r + v)) (item_on t xs (from + r) m)) ew
      ∙ lowers_here t ps at from xs m there

-- no field more
pub nothing_lowered : (parts at address : ℕ) (ts : List ItemType) (xs : List ℤ) (m : List ℕ) → parts ≡ 0 → m ≡ fields_on at (taken parts ts) xs address m
unfolding encode
nothing_lowered parts at address ts xs m e = sym (ap (λ k. fields_on at (taken k ts) xs address m) e ∙ take-append-drop address m)

pub nothing_left : (parts : ℕ) (ts : List ItemType) (xs : List ℤ) → parts ≡ 0 → xs ≡ left_fields (taken parts ts) xs
nothing_left parts ts xs e = ap (λ k. left_fields (taken k ts) xs) (sym e)

-- the bytes are as many as they were
pub length-fields_on : (at : ℕ) (ps : Parts) (xs : List ℤ) (from : ℕ) (m new : List ℕ) → new ≡ fields_on at ps xs (from + at) m → from + end_of at ps ≤ length m → length new ≡ length m
length-fields_on at ps xs from m new e h =
    let past = le-end_of at ps in
    let n : length (take (from + at) m) ≡ from + at = length-take-le (from + at) m (omega (arith, past, h)) in
    let l : length (encode_parts at ps (drop (from + at) m) xs) ≡ length (drop (from + at) m) = length-encode_parts at ps (drop (from + at) m) xs (omega (arith, past, h, length-drop (from + at) m)) in
    ap length e ∙ rw (length-append, n, l, length-drop) (omega (arith, past, h))

-- the parts of a type that was entered, by the words behind those of others
pub record IsInside (n : Node) (ns values : List Node) (i : Inside) (numbers : ℕ) (xs own_left : List ℤ) (place : ℕ) (old entered : List ℕ) : Type 0 where
  pub entry : IsEntered (type_with n (spelled ns)) (taken i.parts (drop i.skipped (spelled ns))) xs old entered place i.offset numbers
  pub words : values ≡ behind i.skipped ns
  pub numbers_left : own_left ≡ drop numbers xs

module _ (n : Node) (ns values : List Node) (i : Inside) (numbers : ℕ) (xs own_left : List ℤ) (place : ℕ) (old entered : List ℕ)
    (h : IsInside n ns values i numbers xs own_left place old entered) where
  parts_are : taken i.parts (spelled values) ≡ taken i.parts (drop i.skipped (spelled ns))
  parts_are = ap (λ vs. taken i.parts (spelled vs)) h.words ∙ ap (taken i.parts) (spelled-behind i.skipped ns)

  pub inside_begins : BeginFields (taken i.parts (spelled values)) own_left
  inside_begins = rw (parts_are, h.numbers_left) h.entry.begins

  pub inside_room : (start : ℕ) → start + item_size (type_with n (spelled ns)) ≤ length old → start ≡ place → place + i.offset + end_of 0 (taken i.parts (spelled values)) ≤ length entered
  inside_room start room e = rw parts_are (omega (arith, h.entry.room, h.entry.long, room, e))

  -- once the parts are stored, the item is
  pub inside_stored : (new : List ℕ) → new ≡ fields_on 0 (taken i.parts (spelled values)) own_left (place + i.offset + 0) entered → new ≡ item_on (type_with n (spelled ns)) xs place old
  inside_stored new e =
      let z : place + i.offset + 0 ≡ place + i.offset = omega arith in
      e ∙ ap (λ ps. fields_on 0 ps own_left (place + i.offset + 0) entered) parts_are
      ∙ ap (λ ys. fields_on 0 (taken i.parts (drop i.skipped (spelled ns))) ys (place + i.offset + 0) entered) h.numbers_left
      ∙ ap (λ k. fields_on 0 (taken i.parts (drop i.skipped (spelled ns))) (drop numbers xs) k entered) z
      ∙ sym h.entry.same

  pub inside_left : (rest : List ℤ) → rest ≡ left_fields (taken i.parts (spelled values)) own_left → rest ≡ left (type_with n (spelled ns)) xs
  inside_left rest e = e ∙ ap (λ ps. left_fields ps own_left) parts_are ∙ ap (left_fields (taken i.parts (drop i.skipped (spelled ns)))) h.numbers_left ∙ sym h.entry.rest

-- the bytes are as many as they were
pub length-item_on : (t : ItemType) (xs : List ℤ) (place : ℕ) (m new : List ℕ) → new ≡ item_on t xs place m → place + item_size t ≤ length m → length new ≡ length m
length-item_on t xs place m new e h =
    let n : length (take place m) ≡ place = length-take-le place m (omega (arith, h)) in
    let l : length (encode t (drop place m) xs) ≡ length (drop place m) = length-encode t (drop place m) xs (omega (arith, h, length-drop place m)) in
    ap length e ∙ rw (length-append, n, l, length-drop) (omega (arith, h))

-- the numbers begin with the first type, and then with those behind it
pub record BeginFirst (n : Node) (ns : List Node) (parts : ℕ) (xs : List ℤ) : Type 0 where
  pub first : Begins (type_with n (spelled ns)) xs
  pub others : BeginFields (taken (parts - 1) (spelled (behind (arity n) ns))) (left (type_with n (spelled ns)) xs)

pub begin_first : (n : Node) (ns : List Node) (parts : ℕ) (xs : List ℤ) → 1 ≤ parts → BeginFields (taken parts (spelled (n ∷ ns))) xs → BeginFirst n ns parts xs
begin_first n ns parts xs some b = let split = rw (taken_first n ns parts some) at b in record { first = split.0; others = split.1 }

module _ (n : Node) (ns nodes more : List Node) (parts at from start w : ℕ) (xs next : List ℤ) (m mid : List ℕ)
    (e : nodes ≡ n ∷ ns) (some : 1 ≤ parts) (step : IsStep n ns at start w) (are : more ≡ behind (arity n) ns) (leftover : next ≡ left (type_with n (spelled ns)) xs) where
  pub others_begin : BeginFirst n ns parts xs → BeginFields (taken (parts - 1) (spelled more)) next
  others_begin b = rw (are, leftover) b.others

  pub others_room : from + end_of at (taken parts (spelled nodes)) ≤ length m → length mid ≡ length m → from + end_of (start + w) (taken (parts - 1) (spelled more)) ≤ length mid
  others_room h l = rw (are, l) (omega (arith, end_of_first n ns parts at start w some step, rw e at h))

  -- once the first type and those behind it are stored, all are
  module _ (new : List ℕ) (h : from + end_of at (taken parts (spelled nodes)) ≤ length m) (em : mid ≡ item_on (type_with n (spelled ns)) xs (from + start) m) where
    pub all_stored : new ≡ fields_on (start + w) (taken (parts - 1) (spelled more)) next (from + (start + w)) mid → new ≡ fields_on at (taken parts (spelled nodes)) xs (from + at) m
    all_stored en =
        let room : from + start + w ≤ length m = omega (arith, first_room n ns parts at start w some step, rw e at h) in
        let stored = lowers_on (type_with n (spelled ns)) (taken (parts - 1) (spelled (behind (arity n) ns))) at from start w xs m mid new step.starts step.takes room em
        (en ∙ ap (λ ys. fields_on (start + w) (taken (parts - 1) (spelled more)) ys (from + (start + w)) mid) leftover ∙ ap (λ vs. fields_on (start + w) (taken (parts - 1) (spelled vs)) (left (type_with n (spelled ns)) xs) (from + (start + w)) mid) are) in
        stored ∙ ap (λ ps. fields_on at ps xs (from + at) m) (sym (taken_first n ns parts some)) ∙ ap (λ vs. fields_on at (taken parts (spelled vs)) xs (from + at) m) (sym e)

  pub all_left : (rest : List ℤ) → rest ≡ left_fields (taken (parts - 1) (spelled more)) next → rest ≡ left_fields (taken parts (spelled nodes)) xs
  all_left rest h =
      h ∙ ap (λ ys. left_fields (taken (parts - 1) (spelled more)) ys) leftover
      ∙ ap (λ vs. left_fields (taken (parts - 1) (spelled vs)) (left (type_with n (spelled ns)) xs)) are
      ∙ ap (λ ps. left_fields ps xs) (sym (taken_first n ns parts some))
      ∙ ap (λ vs. left_fields (taken parts (spelled vs)) xs) (sym e)
