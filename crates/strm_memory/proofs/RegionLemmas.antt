-- What is known of regions of items, for the crates above.
--
-- Storing keeps the memory's length and every byte outside its region (`length-stored_at`,
-- `bytes_at-stored_at`), as does a put of bytes (`length-put_at`, `bytes_at-put_at_apart`). What was stored is what
-- lies there (`items_at-stored_at`), and so is what was copied (`items_at-copied`). What lies somewhere are items
-- (`AreItems-items`), as many as were asked for (`length-items`); any bytes are items of a number
-- (`items-number_or_none`).
use Rattle.std.proofs.Common.{◌≡◌, ℕ, zero, suc, ◌+◌, ◌*◌, ◌≤◌, ◌-◌, ℤ, List, [], ◌∷◌, ◌++◌, length, take, drop, Option, Some, None, true, inl, inr, refl, sym, subst, ap, ◌∙◌, append_assoc, arith, length-append, length-drop}
use Rattle.std.proofs.lemmas.List.{take_at, drop_at, length-take-le, drop-drop, drop-take, take-take, take-append-drop}
use Rattle.std.proofs.lemmas.Option.{option_and_then_some}
use Rattle.std.proofs.Math.Seq.{drop-append-add}
use Rattle.std.specs.Prelude.{is_some, IsSome, IsTrue}
use Rattle.strm_codes.specs.Layout.{item_type}
use Rattle.strm_codes.specs.ItemTypes.{item_size, ItemType, Plain, fields_type}
use Rattle.strm_codes.specs.declared.payloads.Payload.{Payload}
use Rattle.strm_codes.specs.declared.payloads.Payload.TheVariants.{Nothing, One, Tuple, Compound}
use Rattle.strm_memory.specs.Bytes.{put_at, bytes_at, IsBytes, IsApart}
use Rattle.strm_memory.specs.Items.{items, stored, items_at, stored_at, AreItems, is_number_or_none}
use Rattle.strm_memory.specs.Loads.{decode, encode}
use Rattle.strm_memory.proofs.ByteLemmas.{IsBytes-drop}
use Rattle.strm_memory.proofs.LoadLemmas.{option_map_some, decode-take, length-encode, drop-encode, decode-encode, FitsItem-decode}
use Rattle.strm_memory.proofs.AlikeLemmas.{items-alike, plain_alike}
use Rattle.strm_memory.proofs.CopyLemmas.{items-no_char, number_no_char}

middle : (a b c : List ℕ) (n m : ℕ) → length a ≡ n → length b ≡ m → (take m (drop n (a ++ b ++ c)) ≡ b) × (drop (n + m) (a ++ b ++ c) ≡ c)
middle a b c n m e f =
    (rw (append_assoc, drop_at a (b ++ c) n e) (take_at b c m f), drop_at (a ++ b) c (n + m) (omega (arith, length-append a b)))

-- ## So many items from the front of the bytes

pub stored-nil : (t : ItemType) (bytes : List ℕ) → stored t bytes [] ≡ bytes
unfolding stored
stored-nil t bytes = refl

pub length-items : (t : ItemType) (bytes : List ℕ) (n : ℕ) (xs : List (List ℤ)) → items t bytes n ≡ Some xs → length xs ≡ n
unfolding items
length-items t bytes zero xs e = let q : [] ≡ xs = cc in rw (← q) refl
length-items t bytes (suc n) xs e =
    option_and_then_some _ (decode t bytes) xs e
    (λ x p q. option_map_some _ (items t (drop (item_size t) bytes) n) xs q
    (λ ys u v. rw (← v) (ap suc (length-items t (drop (item_size t) bytes) n ys u))))

pub AreItems-items : (t : ItemType) (bytes : List ℕ) (n : ℕ) (xs : List (List ℤ)) → IsBytes bytes → items t bytes n ≡ Some xs → AreItems t xs
unfolding items
AreItems-items t bytes zero xs h e = let q : [] ≡ xs = cc in subst (AreItems t) q tt
AreItems-items t bytes (suc n) xs h e =
    option_and_then_some _ (decode t bytes) xs e
    (λ x p q. option_map_some _ (items t (drop (item_size t) bytes) n) xs q
    (λ ys u v. subst (AreItems t) v (FitsItem-decode t bytes x h p, AreItems-items t (drop (item_size t) bytes) n ys (IsBytes-drop bytes (item_size t) h) u)))

-- any bytes are items of a number, and of nothing
pub items-number_or_none : (payload : Payload) (bytes : List ℕ) (n : ℕ) → IsTrue (is_number_or_none payload) → IsSome (items (item_type payload) bytes n)
items-number_or_none payload bytes n t = some (items (item_type payload) bytes n) (good payload t)
  where
    some : {A : Type 0} (o : Option A) → is_some o ≡ true → IsSome o
    some None e = cc
    some (Some x) e = refl

    good : (payload : Payload) → IsTrue (is_number_or_none payload) → is_some (items (item_type payload) bytes n) ≡ true
    good Nothing t = items-no_char [] n bytes tt
    good (One s) t = ap is_some (items-alike (Plain s) (fields_type (s ∷ [])) bytes n (plain_alike s)) ∙ items-no_char (s ∷ []) n bytes (number_no_char s t)
    good (Tuple shape) t = cc
    good (Compound words) t = cc

pub length-stored : (t : ItemType) (bytes : List ℕ) (xs : List (List ℤ)) → item_size t * length xs ≤ length bytes → length (stored t bytes xs) ≡ length bytes
unfolding stored
length-stored t bytes [] l = refl
length-stored t bytes (x ∷ xs) l =
    let w = item_size t in
    let e = encode t bytes x in
    let room : w + w * length xs ≤ length bytes = omega (arith, l) in
    let n : length e ≡ length bytes = length-encode t bytes x (omega (arith, room)) in
    let rest = length-stored t (drop w e) xs (omega (arith, n, room, length-drop w e)) in
    rw (length-append, length-take-le w e (omega (arith, n, room)), rest, length-drop, n) (omega (arith, room))

-- the bytes behind the items stay
pub drop-stored : (t : ItemType) (bytes : List ℕ) (xs : List (List ℤ)) → item_size t * length xs ≤ length bytes → drop (item_size t * length xs) (stored t bytes xs) ≡ drop (item_size t * length xs) bytes
unfolding stored
drop-stored t bytes [] l = refl
drop-stored t bytes (x ∷ xs) l =
    let w = item_size t in
    let e = encode t bytes x in
    let more : w * length (x ∷ xs) ≡ w + w * length xs = omega arith in
    let room : w + w * length xs ≤ length bytes = omega (arith, l) in
    let n : length e ≡ length bytes = length-encode t bytes x (omega (arith, room)) in
    let size : length (take w e) ≡ w = length-take-le w e (omega (arith, n, room)) in
    let cut : drop w (take w e ++ stored t (drop w e) xs) ≡ stored t (drop w e) xs = drop_at (take w e) (stored t (drop w e) xs) w size in
    let rest = drop-stored t (drop w e) xs (omega (arith, n, room, length-drop w e)) in
    let behind : drop w e ≡ drop w bytes = drop-encode t bytes x w (omega (arith, room)) (omega arith) in
    rw more (sym (drop-drop (w * length xs) w (take w e ++ stored t (drop w e) xs)) ∙ ap (drop (w * length xs)) cut ∙ rest ∙ ap (drop (w * length xs)) behind ∙ drop-drop (w * length xs) w bytes)

-- items that fit, stored and read
pub items-stored : (t : ItemType) (bytes : List ℕ) (xs : List (List ℤ)) → AreItems t xs → item_size t * length xs ≤ length bytes → items t (stored t bytes xs) (length xs) ≡ Some xs
unfolding items stored
items-stored t bytes [] h l = refl
items-stored t bytes (x ∷ xs) h l =
    let w = item_size t in
    let e = encode t bytes x in
    let room : w + w * length xs ≤ length bytes = omega (arith, l) in
    let inside : item_size t ≤ length bytes = omega (arith, room) in
    let n : length e ≡ length bytes = length-encode t bytes x inside in
    let size : length (take w e) ≡ w = length-take-le w e (omega (arith, n, room)) in
    let whole = take w e ++ stored t (drop w e) xs in
    let front : take w whole ≡ take w e = take_at (take w e) (stored t (drop w e) xs) w size in
    let first : decode t whole ≡ Some x = sym (decode-take t whole w (omega arith)) ∙ ap (decode t) front ∙ decode-take t e w (omega arith) ∙ decode-encode t bytes x h.0 inside in
    let rest = items-stored t (drop w e) xs h.1 (omega (arith, n, room, length-drop w e)) in
    rw (first, drop_at (take w e) (stored t (drop w e) xs) w size, rest) refl

-- ## At an address

pub stored_at-nil : (t : ItemType) (memory : List ℕ) (address : ℕ) → stored_at t memory address [] ≡ memory
stored_at-nil t memory address = rw (stored-nil t (drop address memory)) (take-append-drop address memory)

-- one item stored is its encoding
pub stored_at-one : (t : ItemType) (memory : List ℕ) (address : ℕ) (x : List ℤ) → stored_at t memory address (x ∷ []) ≡ take address memory ++ encode t (drop address memory) x
unfolding stored
stored_at-one t memory address x = ap (λ l. take address memory ++ l) (take-append-drop (item_size t) (encode t (drop address memory) x))

-- the bytes that these items take
abbrev pub bytes_of : ItemType → List (List ℤ) → ℕ
bytes_of t xs = item_size t * length xs

pub length-stored_at : (t : ItemType) (memory : List ℕ) (address : ℕ) (xs : List (List ℤ)) → address + item_size t * length xs ≤ length memory → length (stored_at t memory address xs) ≡ length memory
length-stored_at t memory address xs h =
    let n : length (take address memory) ≡ address = length-take-le address memory (omega arith) in
    let m : length (stored t (drop address memory) xs) ≡ length (drop address memory) = length-stored t (drop address memory) xs (omega (arith, length-drop address memory)) in
    rw (length-append, n, m, length-drop) (omega arith)

-- items that fit lie where they were stored
pub items_at-stored_at : (t : ItemType) (memory : List ℕ) (address : ℕ) (xs : List (List ℤ)) → AreItems t xs → address + item_size t * length xs ≤ length memory → items_at t (stored_at t memory address xs) address (length xs) ≡ Some xs
items_at-stored_at t memory address xs f h =
    let n : length (take address memory) ≡ address = length-take-le address memory (omega arith) in
    rw (drop_at (take address memory) (stored t (drop address memory) xs) address n) (items-stored t (drop address memory) xs f (omega (arith, length-drop address memory)))

-- what lay in one memory lies in the other to which it was copied
pub items_at-copied : (t : ItemType) (source memory : List ℕ) (from to n : ℕ) (xs : List (List ℤ)) → IsBytes source → to + item_size t * n ≤ length memory → items_at t source from n ≡ Some xs → items_at t (stored_at t memory to xs) to n ≡ Some xs
items_at-copied t source memory from to n xs h l e =
    let size : length xs ≡ n = length-items t (drop from source) n xs e in
    let fit : AreItems t xs = AreItems-items t (drop from source) n xs (IsBytes-drop source from h) e in
    subst (λ k. items_at t (stored_at t memory to xs) to k ≡ Some xs) size (items_at-stored_at t memory to xs fit (rw size l))

-- ## Bytes outside a region

-- what is the same behind an address is the same from there on
same_behind : (memory other : List ℕ) (k address n : ℕ) → drop k other ≡ drop k memory → k ≤ address → bytes_at other address n ≡ bytes_at memory address n
same_behind memory other k address n e h =
    let place : address ≡ k + (address - k) = omega arith in
    rw place (ap (take n) (sym (drop-drop (address - k) k other) ∙ ap (drop (address - k)) e ∙ drop-drop (address - k) k memory))

-- what is the same before an address is the same up to there
same_before : (memory other : List ℕ) (k address n : ℕ) → take k other ≡ take k memory → address + n ≤ k → bytes_at other address n ≡ bytes_at memory address n
same_before memory other k address n e h =
    let short : take (address + n) other ≡ take (address + n) memory =
    sym (take-take (address + n) k other h) ∙ ap (take (address + n)) e ∙ take-take (address + n) k memory h in
    sym (drop-take address n other) ∙ ap (drop address) short ∙ drop-take address n memory

pub take-stored_at : (t : ItemType) (memory : List ℕ) (address : ℕ) (xs : List (List ℤ)) → address ≤ length memory → take address (stored_at t memory address xs) ≡ take address memory
take-stored_at t memory address xs h = take_at (take address memory) (stored t (drop address memory) xs) address (length-take-le address memory h)

pub drop-stored_at : (t : ItemType) (memory : List ℕ) (address : ℕ) (xs : List (List ℤ)) → address + item_size t * length xs ≤ length memory → drop (address + item_size t * length xs) (stored_at t memory address xs) ≡ drop (address + item_size t * length xs) memory
drop-stored_at t memory address xs h =
    let k = item_size t * length xs in
    let n : length (take address memory) ≡ address = length-take-le address memory (omega arith) in
    let place : address + k ≡ length (take address memory) + k = omega (arith, n) in
    let cut : drop (address + k) (take address memory ++ stored t (drop address memory) xs) ≡ drop k (stored t (drop address memory) xs) = rw place (drop-append-add (take address memory) (stored t (drop address memory) xs) k) in
    cut ∙ drop-stored t (drop address memory) xs (omega (arith, length-drop address memory)) ∙ drop-drop k address memory

-- items stored in a region leave the bytes of a region apart
pub bytes_at-stored_at : (t : ItemType) (memory : List ℕ) (address : ℕ) (xs : List (List ℤ)) (other n : ℕ) → address + bytes_of t xs ≤ length memory → IsApart address (bytes_of t xs) other n → bytes_at (stored_at t memory address xs) other n ≡ bytes_at memory other n
bytes_at-stored_at t memory address xs other n h apart =
    elim apart [
      | inl behind ↦ same_behind memory (stored_at t memory address xs) (address + item_size t * length xs) other n (drop-stored_at t memory address xs h) behind
      | inr before ↦ same_before memory (stored_at t memory address xs) address other n (take-stored_at t memory address xs (omega arith)) before
    ]

-- and leave the bytes of a region apart
pub bytes_at-put_at_apart : (memory : List ℕ) (address : ℕ) (new : List ℕ) (other n : ℕ) → address + length new ≤ length memory → IsApart address (length new) other n → bytes_at (put_at memory address new) other n ≡ bytes_at memory other n
bytes_at-put_at_apart memory address new other n h apart =
    let front : length (take address memory) ≡ address = length-take-le address memory (omega arith) in
    elim apart [
      | inl behind ↦ same_behind memory (put_at memory address new) (address + length new) other n (middle (take address memory) new (drop (address + length new) memory) address (length new) front refl).1 behind
      | inr before ↦ same_before memory (put_at memory address new) address other n (rw append_assoc (take_at (take address memory) (new ++ drop (address + length new) memory) address front)) before
    ]
