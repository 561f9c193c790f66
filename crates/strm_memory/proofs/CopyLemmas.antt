-- A copy is the same as lifting all items and then lowering them, and a copy of numbers is one of bytes.
use Rattle.std.proofs.Common.{◌≡◌, ℕ, zero, suc, ◌+◌, ◌*◌, ◌≤◌, ℤ, true, false, List, [], ◌∷◌, ◌++◌, length, take, drop, Option, Some, None, refl, sym, subst, ap, ◌∙◌, append_assoc, arith, length-drop}
use Rattle.std.proofs.lemmas.Option.{option_and_then_some}
use Rattle.std.proofs.lemmas.List.{length-take-le, drop-drop, take_at, drop_at, take-append-drop, append-nil}
use Rattle.std.proofs.Math.Seq.{take-add}
use Rattle.std.specs.Prelude.{is_some, IsNone, IsSomeAnd, IsTrue, IsErr, OnOk, ◌↔◌, Result, Ok, Err}
use Rattle.strm_codes.specs.Scalars.{size_of, is_numeric}
use Rattle.strm_codes.specs.declared.payloads.Payload.{Payload}
use Rattle.strm_codes.specs.declared.payloads.Payload.TheVariants.{Nothing, One, Tuple, Compound}
use Rattle.strm_codes.specs.Offsets.{gap_before}
use Rattle.strm_codes.specs.Fields.{end_offset, fields_size}
use Rattle.strm_codes.specs.ItemTypes.{ItemType, Plain, fields_type, item_size}
use Rattle.strm_codes.specs.Layout.{item_type}
use Rattle.strm_codes.proofs.FieldTypeLemmas.{item_size-fields}
use Rattle.strm_codes.proofs.LayoutLemmas.{le-end_offset}
use Rattle.strm_codes.specs.declared.scalars.Scalar.{Scalar}
use Rattle.strm_codes.specs.declared.scalars.Scalar.TheVariants.{Bool as Flag, S8, U8, S16, U16, S32, U32, S64, U64, Char, F32, F64}
use Rattle.strm_memory.specs.Bytes.{le, to_le, put_at, bytes_at, IsBytes}
use Rattle.strm_memory.specs.Numbers.{lifted, lowered}
use Rattle.strm_memory.specs.FieldItems.{decode_from, encode_from}
use Rattle.strm_memory.specs.Items.{items, stored, items_at, stored_at, is_number_or_none}
use Rattle.strm_memory.specs.Copies.{bytes_settled, copied_from, copied}
use Rattle.strm_memory.specs.Copying.{CopiesItems}
use Rattle.strm_memory.specs.declared.copies.BadItem.{BadItem}
use Rattle.strm_memory.proofs.ByteLemmas.{IsBytes-drop, IsBytes-take, le-lt}
use Rattle.strm_memory.proofs.NumberLemmas.{lowered-lifted}
use Rattle.strm_memory.proofs.LoadLemmas.{option_map_some}
use Rattle.strm_memory.proofs.FieldLemmas.{is_some-both}
use Rattle.strm_memory.proofs.FlatLemmas.{decode-flat, encode-flat}
use Rattle.strm_memory.proofs.ItemLemmas.{items-cons, stored-cons}
use Rattle.strm_memory.proofs.AlikeLemmas.{LieAlike, items-alike, stored-alike, fields_size-one, plain_alike}

-- the fields copied are the fields read and then written
copied_from-decoded : (at : ℕ) (ss : List Scalar) (source bytes : List ℕ) (xs : List ℤ) → IsBytes source → end_offset at ss ≤ at + length source → decode_from at ss source ≡ Some xs → copied_from at ss source bytes ≡ encode_from at ss bytes xs
unfolding decode_from encode_from copied_from
copied_from-decoded at [] source bytes xs h l e = refl
copied_from-decoded at (s ∷ ss) source bytes xs h l e =
    let gap = gap_before at (size_of s) in
    let here = take (size_of s) (drop gap source) in
    let inside : gap + size_of s ≤ length source = omega (arith, l, le-end_offset (at + gap + size_of s) ss) in
    let size : length here ≡ size_of s = length-take-le (size_of s) (drop gap source) (omega (arith, inside, length-drop gap source)) in
    let bytes_here : IsBytes here = IsBytes-take (drop gap source) (size_of s) (IsBytes-drop source gap h) in
    option_and_then_some _ (lifted s (le here)) xs e
    (λ x p q. option_map_some _ (decode_from (at + gap + size_of s) ss (drop (gap + size_of s) source)) xs q
    (λ ys u v.
    let same : to_le (size_of s) (lowered s x) ≡ bytes_settled s here = lowered-lifted s here x bytes_here size (rw size at (le-lt here bytes_here)) p in
    rw (← v, same, copied_from-decoded (at + gap + size_of s) ss (drop (gap + size_of s) source) (drop (gap + size_of s) bytes) ys (IsBytes-drop source (gap + size_of s) h) (omega (arith, l, inside, length-drop (gap + size_of s) source)) u) refl))

-- the items copied are the items lifted and then lowered
copied-items : (ss : List Scalar) (n : ℕ) (source bytes : List ℕ) (xs : List (List ℤ)) → IsBytes source → fields_size ss * n ≤ length source → items (fields_type ss) source n ≡ Some xs → copied ss source bytes n ≡ stored (fields_type ss) bytes xs
unfolding copied
copied-items ss zero source bytes xs h l e = unfold items in unfold stored in let q : [] ≡ xs = cc in rw (← q) refl
copied-items ss (suc n) source bytes xs h l e =
    let w = fields_size ss in
    let t = fields_type ss in
    let room : w + w * n ≤ length source = omega (arith, l) in
    let cut = sym (items-cons t source n w (decode_from 0 ss source) (item_size-fields ss) (decode-flat ss source)) ∙ e in
    option_and_then_some _ (decode_from 0 ss source) xs cut
    (λ x p q. option_map_some _ (items t (drop w source) n) xs q
    (λ ys u v.
    let one = copied_from 0 ss source bytes in
    let same : one ≡ encode_from 0 ss bytes x = copied_from-decoded 0 ss source bytes x h (omega (arith, room)) p in
    ap (λ l. take w one ++ l) (copied-items ss n (drop w source) (drop w one) ys (IsBytes-drop source w h) (omega (arith, room, length-drop w source)) u)
    ∙ ap (λ i. take w i ++ stored t (drop w i) ys) same
    ∙ sym (stored-cons t bytes x ys w (encode_from 0 ss bytes x) (item_size-fields ss) (encode-flat ss bytes x))
    ∙ ap (stored t bytes) v))

IsSomeAnd-from : {A : Type 0} (o : Option A) (P : A → Type 0) → is_some o ≡ true → ((x : A) → o ≡ Some x → P x) → IsSomeAnd o P
IsSomeAnd-from None P e k = cc
IsSomeAnd-from (Some x) P e k = k x refl

-- so many items of a source, stored in a memory: what it is then
abbrev pub IsCopy : ItemType → List ℕ → ℕ → ℕ → List ℕ → ℕ → List ℕ → Type 0
IsCopy t source from n m to new = IsSomeAnd (items_at t source from n) (λ xs. new ≡ stored_at t m to xs)

-- the same of types whose items lie alike
pub IsCopy-alike : (t u : ItemType) (n : ℕ) (source m new : List ℕ) (from to : ℕ) → LieAlike t u → IsCopy u source from n m to new → IsCopy t source from n m to new
IsCopy-alike t u n source m new from to l c =
    go (items t (drop from source) n) (items-alike t u (drop from source) n l)
  where
    go : (o : Option (List (List ℤ))) → o ≡ items u (drop from source) n → IsSomeAnd o (λ xs. new ≡ stored_at t m to xs)
    go None e = let d = rw (← e) at c in absurd d
    go (Some xs) e = let d = rw (← e) at c in d ∙ ap (λ b. take to m ++ b) (sym (stored-alike t u (drop to m) xs l))

module _ (ss : List Scalar) (n : ℕ) (source m new : List ℕ) (from to : ℕ)
    (h : IsBytes source) (l : from + fields_size ss * n ≤ length source) (e : is_some (items_at (fields_type ss) source from n) ≡ true)
    (f : new ≡ take to m ++ copied ss (drop from source) (drop to m) n) where
  pub stored_at_from_copied : IsCopy (fields_type ss) source from n m to new
  stored_at_from_copied =
      IsSomeAnd-from (items (fields_type ss) (drop from source) n) _ e
      (λ xs p. f ∙ ap (λ b. take to m ++ b) (copied-items ss n (drop from source) (drop to m) xs (IsBytes-drop source from h) (omega (arith, l, length-drop from source)) p))

-- any bytes are an item of a scalar that is no character
pub lifted_no_char : (s : Scalar) (n : ℕ) → (s ≡ Char → ⊥) → is_some (lifted s n) ≡ true
lifted_no_char Flag n h = refl
lifted_no_char S8 n h = refl
lifted_no_char U8 n h = refl
lifted_no_char S16 n h = refl
lifted_no_char U16 n h = refl
lifted_no_char S32 n h = refl
lifted_no_char U32 n h = refl
lifted_no_char S64 n h = refl
lifted_no_char U64 n h = refl
lifted_no_char Char n h = absurd (h refl)
lifted_no_char F32 n h = refl
lifted_no_char F64 n h = refl

-- no field is a character: the only scalar of which some bytes are no item
abbrev pub HasNoChar : List Scalar → Type 0
HasNoChar [] = Unit {0}
HasNoChar (s ∷ ss) = (s ≡ Char → ⊥) × HasNoChar ss

decode_from-no_char : (at : ℕ) (ss : List Scalar) (bytes : List ℕ) → HasNoChar ss → is_some (decode_from at ss bytes) ≡ true
unfolding decode_from
decode_from-no_char at [] bytes h = refl
decode_from-no_char at (s ∷ ss) bytes h =
    let gap = gap_before at (size_of s) in
    is_some-both (lifted s (le (take (size_of s) (drop gap bytes)))) (decode_from (at + gap + size_of s) ss (drop (gap + size_of s) bytes)) (λ x xs. x ∷ xs)
    ∙ rw (lifted_no_char s (le (take (size_of s) (drop gap bytes))) h.0) (decode_from-no_char (at + gap + size_of s) ss (drop (gap + size_of s) bytes) h.1)

pub items-no_char : (ss : List Scalar) (n : ℕ) (bytes : List ℕ) → HasNoChar ss → is_some (items (fields_type ss) bytes n) ≡ true
items-no_char ss zero bytes e = unfold items in refl
items-no_char ss (suc n) bytes e =
    let w = fields_size ss in
    let here = decode_from 0 ss bytes in
    let others = items (fields_type ss) (drop w bytes) n in
    ap is_some (items-cons (fields_type ss) bytes n w here (item_size-fields ss) (decode-flat ss bytes))
    ∙ is_some-both here others (λ x xs. x ∷ xs)
    ∙ rw (decode_from-no_char 0 ss bytes e) (items-no_char ss n (drop w bytes) e)

pub number_no_char : (s : Scalar) → is_numeric s ≡ true → HasNoChar (s ∷ [])
number_no_char s e = ((λ c. differ (sym (rw c at e))), tt)
  where
    differ : true ≡ false → ⊥
    differ e = cc

-- a number copied is its bytes copied
one_copied : (s : Scalar) (source bytes : List ℕ) → is_numeric s ≡ true → copied_from 0 (s ∷ []) source bytes ≡ take (size_of s) source ++ drop (size_of s) bytes
unfolding copied_from
one_copied Flag source bytes t = cc
one_copied S8 source bytes t = refl
one_copied U8 source bytes t = refl
one_copied S16 source bytes t = refl
one_copied U16 source bytes t = refl
one_copied S32 source bytes t = refl
one_copied U32 source bytes t = refl
one_copied S64 source bytes t = refl
one_copied U64 source bytes t = refl
one_copied Char source bytes t = cc
one_copied F32 source bytes t = refl
one_copied F64 source bytes t = refl

numbers_copied : (s : Scalar) (n : ℕ) (source bytes : List ℕ) → is_numeric s ≡ true → size_of s * n ≤ length source → copied (s ∷ []) source bytes n ≡ take (size_of s * n) source ++ drop (size_of s * n) bytes
unfolding copied
numbers_copied s zero source bytes t l = let z : size_of s * zero ≡ 0 = omega arith in rw z refl
numbers_copied s (suc n) source bytes t l =
    let w = size_of s in
    let e : w * suc n ≡ w + w * n = omega arith in
    let first : length (take w source) ≡ w = length-take-le w source (omega (arith, e)) in
    rw (
      fields_size-one s,
      one_copied s source bytes t,
      take_at (take w source) (drop w bytes) w first,
      drop_at (take w source) (drop w bytes) w first,
      numbers_copied s n (drop w source) (drop w bytes) t (omega (arith, e, length-drop w source)),
      e,
      take-add w (w * n) source,
      drop-drop (w * n) w bytes,
    )
    (simp append_assoc)

module _ (s : Scalar) (n : ℕ) (source m new : List ℕ) (from to len : ℕ)
    (t : is_numeric s ≡ true) (h : IsBytes source) (l : from + fields_size (s ∷ []) * n ≤ length source) (e : len ≡ fields_size (s ∷ []) * n) (f : new ≡ put_at m to (take len (drop from source))) where
  pub numbers_copied_at : IsCopy (fields_type (s ∷ [])) source from n m to new
  numbers_copied_at =
      let room : size_of s * n ≤ length (drop from source) = rw (← fields_size-one s) (omega (arith, l, length-drop from source)) in
      let size : length (take (fields_size (s ∷ []) * n) (drop from source)) ≡ fields_size (s ∷ []) * n = length-take-le (fields_size (s ∷ []) * n) (drop from source) (omega (arith, l, length-drop from source)) in
      let same : put_at m to (take len (drop from source)) ≡ take to m ++ copied (s ∷ []) (drop from source) (drop to m) n =
      rw (numbers_copied s n (drop from source) (drop to m) t room, e, size, fields_size-one s, drop-drop (size_of s * n) to m) (append_assoc (take to m) _ _) in
      stored_at_from_copied (s ∷ []) n source m new from to h l (items-no_char (s ∷ []) n (drop from source) (number_no_char s t)) (f ∙ same)

nothing_copied : (n : ℕ) (source bytes : List ℕ) → copied [] source bytes n ≡ bytes
unfolding copied copied_from
nothing_copied zero source bytes = refl
nothing_copied (suc n) source bytes = nothing_copied n source bytes

pub nothing_copied_at : (n : ℕ) (source m : List ℕ) (from to : ℕ) → IsBytes source → from + fields_size [] * n ≤ length source → IsCopy (fields_type []) source from n m to m
nothing_copied_at n source m from to h l =
    stored_at_from_copied [] n source m m from to h l (items-no_char [] n (drop from source) tt)
    (rw (nothing_copied n (drop from source) (drop to m)) (sym (take-append-drop to m)))

-- a call that is Ok, where the items are there
pub never_none : {A : Type 0} (o : Option A) → is_some o ≡ true → (false ≡ true → IsNone o) × (IsNone o → false ≡ true)
never_none None e = cc
never_none (Some x) e = (λ f. cc, λ f. cc)

-- any bytes are items of a number
pub some_numbers : (s : Scalar) (n : ℕ) (bytes : List ℕ) → is_numeric s ≡ true → is_some (items (Plain s) bytes n) ≡ true
some_numbers s n bytes e =
    ap is_some (items-alike (Plain s) (fields_type (s ∷ [])) bytes n (plain_alike s)) ∙ items-no_char (s ∷ []) n bytes (number_no_char s e)

-- a copy of items is one of any type whose items lie alike
pub CopiesItems-alike : (t u : ItemType) (source : List ℕ) (from : ℕ) (old new : List ℕ) (to n : ℕ) (r : Result (Unit {0}) BadItem) → LieAlike t u → CopiesItems u source from old new to n r → CopiesItems t source from old new to n r
CopiesItems-alike t u source from old new to n r l c =
    record {
      ok = ok r c.ok;
      bad = subst (λ o. IsErr r ↔ IsNone o) (sym (items-alike t u (drop from source) n l)) c.bad;
      err = c.err;
    }
  where
    ok : (r : Result (Unit {0}) BadItem) → OnOk r (IsCopy u source from n old to new) → OnOk r (IsCopy t source from n old to new)
    ok (Ok x) c = IsCopy-alike t u n source old new from to l c
    ok (Err e) c = c

-- the bytes of so many items
abbrev bytes_of : Payload → ℕ → ℕ
bytes_of payload n = item_size (item_type payload) * n

-- so many bytes of a source, put into a memory: what it is then
abbrev pub IsPut : List ℕ → ℕ → ℕ → List ℕ → ℕ → List ℕ → Type 0
IsPut source from len m to new = new ≡ put_at m to (bytes_at source from len)

-- the bytes of numbers moved are numbers moved
pub moved_items : (payload : Payload) (n : ℕ) (source m new : List ℕ) (from to len : ℕ) → IsTrue (is_number_or_none payload) → IsBytes source → from + bytes_of payload n ≤ length source → len ≡ bytes_of payload n → IsPut source from len m to new → IsCopy (item_type payload) source from n m to new
moved_items Nothing n source m new from to len t h l e f =
    let z : len ≡ 0 = omega arith in
    let place : to + 0 ≡ to = omega arith in
    let same : new ≡ m = f ∙ rw (z, place, append-nil) (take-append-drop to m) in
    rw same (nothing_copied_at n source m from to h l)
moved_items (One s) n source m new from to len t h l e f =
    IsCopy-alike (Plain s) (fields_type (s ∷ [])) n source m new from to (plain_alike s)
    (numbers_copied_at s n source m new from to len t h
    (subst (λ w. from + w * n ≤ length source) (sym (fields_size-one s)) l)
    (e ∙ ap (λ w. w * n) (sym (fields_size-one s)))
    f)
moved_items (Tuple shape) n source m new from to len t h l e f = cc
moved_items (Compound words) n source m new from to len t h l e f = cc
