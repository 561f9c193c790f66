-- Items behind other items, and bytes that are items of payload u8.
--
-- Items depend on their own bytes alone (`items-same`); items stored behind others are more items
-- (`items_at-put`); bytes are items as they are (`items-bytes`), and are stored as they are (`stored-bytes`).
-- A number is stored as its own bytes (`stored_at-number`).
use Rattle.std.proofs.Common.{◌≡◌, ℕ, zero, suc, ◌+◌, ◌*◌, ◌%◌, ◌<◌, ◌≤◌, ℤ, pos, negsuc, List, [], ◌∷◌, ◌++◌, length, take, drop, Option, Some, inr, refl, sym, ap, ◌∙◌, append_assoc, arith, get_or}
use Rattle.std.proofs.lemmas.List.{take-take, drop-take, drop-drop, take-append-drop}
use Rattle.std.specs.Prelude.{option_and_then}
use Rattle.std.specs.Option.{option_map}
use Rattle.strm_codes.specs.Scalars.{size_of}
use Rattle.std.proofs.lemmas.Int.{ints}
use Rattle.strm_codes.specs.Begins.{FitsItem}
use Rattle.strm_codes.specs.Layout.{byte_type}
use Rattle.strm_codes.specs.ItemTypes.{ItemType, item_size, Plain}
use Rattle.strm_codes.specs.declared.scalars.Scalar.{Scalar}
use Rattle.strm_memory.specs.Bytes.{to_le, put_at}
use Rattle.strm_memory.specs.Numbers.{lowered}
use Rattle.strm_memory.specs.Items.{items, stored, items_at, stored_at, AreItems, byte_items}
use Rattle.strm_memory.specs.Loads.{decode, encode}
use Rattle.strm_memory.proofs.ByteLemmas.{length-to_le}
use Rattle.strm_memory.proofs.ItemLemmas.{items-add}
use Rattle.strm_memory.proofs.LoadLemmas.{decode-take}
use Rattle.strm_memory.proofs.RegionLemmas.{items_at-stored_at, bytes_at-stored_at}

-- items depend on their own bytes alone
pub items-same : (t : ItemType) (bytes other : List ℕ) (n : ℕ) → take (item_size t * n) other ≡ take (item_size t * n) bytes → items t other n ≡ items t bytes n
unfolding items
items-same t bytes other zero e = refl
items-same t bytes other (suc n) e =
    let w = item_size t in
    let more : w * suc n ≡ w + w * n = omega arith in
    let e' : take (w + w * n) other ≡ take (w + w * n) bytes = rw more at e in
    let here : take w other ≡ take w bytes = sym (take-take w (w + w * n) other (omega arith)) ∙ ap (take w) e' ∙ take-take w (w + w * n) bytes (omega arith) in
    let first : decode t other ≡ decode t bytes = sym (decode-take t other w (omega arith)) ∙ ap (decode t) here ∙ decode-take t bytes w (omega arith) in
    let behind : take (w * n) (drop w other) ≡ take (w * n) (drop w bytes) = sym (drop-take w (w * n) other) ∙ ap (drop w) e' ∙ drop-take w (w * n) bytes in
    rw (first, items-same t (drop w bytes) (drop w other) n behind) refl

pub AreItems-append : (t : ItemType) (xs ys : List (List ℤ)) → AreItems t xs → AreItems t ys → AreItems t (xs ++ ys)
AreItems-append t [] ys f g = g
AreItems-append t (x ∷ xs) ys f g = (f.0, AreItems-append t xs ys f.1 g)

pub AreItems-drop : (t : ItemType) (k : ℕ) (xs : List (List ℤ)) → AreItems t xs → AreItems t (drop k xs)
AreItems-drop t zero xs f = f
AreItems-drop t (suc k) [] f = tt
AreItems-drop t (suc k) (x ∷ xs) f = AreItems-drop t k xs f.1

joined : {A : Type 0} (o p : Option (List A)) (xs ys : List A) → o ≡ Some xs → p ≡ Some ys → option_and_then (λ us. option_map (λ vs. us ++ vs) p) o ≡ Some (xs ++ ys)
joined o p xs ys e f = rw (e, f) refl

-- items and then more behind them
pub items_at-more : (t : ItemType) (m : List ℕ) (a n k : ℕ) (xs ys : List (List ℤ)) → items_at t m a n ≡ Some xs → items_at t m (a + item_size t * n) k ≡ Some ys → items_at t m a (n + k) ≡ Some (xs ++ ys)
items_at-more t m a n k xs ys e f =
    items-add t (drop a m) n k
    ∙ joined (items t (drop a m) n) (items t (drop (item_size t * n) (drop a m)) k) xs ys e (ap (λ b. items t b k) (drop-drop (item_size t * n) a m) ∙ f)

-- items stored behind others
pub items_at-put : (t : ItemType) (m : List ℕ) (a n : ℕ) (xs ys : List (List ℤ)) → items_at t m a n ≡ Some xs → AreItems t ys → a + item_size t * n + item_size t * length ys ≤ length m
    → items_at t (stored_at t m (a + item_size t * n) ys) a (n + length ys) ≡ Some (xs ++ ys)
items_at-put t m a n xs ys e f room =
    let w = item_size t in
    let new = stored_at t m (a + w * n) ys in
    let same : items_at t new a n ≡ Some xs = items-same t (drop a m) (drop a new) n (bytes_at-stored_at t m (a + w * n) ys a (w * n) room (inr (omega arith))) ∙ e in
    items_at-more t new a n (length ys) xs ys same (items_at-stored_at t m (a + w * n) ys f room)

-- a number stored in its own bytes
pub stored_at-number : (s : Scalar) (m : List ℕ) (a : ℕ) (x : ℤ) → put_at m a (to_le (size_of s) (lowered s x)) ≡ stored_at (Plain s) m a ((x ∷ []) ∷ [])
unfolding stored encode
stored_at-number s m a x =
    let new = to_le (size_of s) (lowered s x) in
    let size : length new ≡ size_of s = length-to_le (size_of s) (lowered s x) in
    let item : List ℕ = encode (Plain s) (drop a m) (x ∷ []) in
    let is : item ≡ new ++ drop (size_of s) (drop a m) = refl in
    append_assoc (take a m) new (drop (a + length new) m)
    ∙ ap (λ k. take a m ++ (new ++ drop (a + k) m)) size
    ∙ ap (λ l. take a m ++ (new ++ l)) (sym (drop-drop (size_of s) a m))
    ∙ ap (λ l. take a m ++ l) (sym is ∙ sym (take-append-drop (size_of s) item))

-- a byte at the front of bytes is an item of payload u8
pub decode-byte : (b : ℕ) (bytes : List ℕ) → decode byte_type (b ∷ bytes) ≡ Some (pos b ∷ [])
unfolding decode
decode-byte b bytes = let z : b + 0 ≡ b = omega arith in rw z refl

-- an item of payload u8 is a byte
pub byte_item : (x : List ℤ) → FitsItem byte_type x → (b : ℕ) × (x ≡ pos b ∷ []) × (b < 256)
byte_item [] f = absurd f.begins
byte_item (pos b ∷ []) f = (b, refl, (let h = f.begins.1 in omega (arith, ints)))
byte_item (negsuc b ∷ []) f = let h = f.begins.0 in absurd (omega (arith, ints))
byte_item (y ∷ z ∷ xs) f = let e = f.all in cc

pub items-bytes : (bytes : List ℕ) (n : ℕ) → n ≤ length bytes → items byte_type bytes n ≡ Some (byte_items (take n bytes))
unfolding items
items-bytes bytes zero h = refl
items-bytes [] (suc n) h = absurd (omega arith)
items-bytes (b ∷ bytes) (suc n) h = rw (decode-byte b bytes, items-bytes bytes n (omega (arith, h))) refl

pub stored-bytes : (m bytes : List ℕ) → ((k : ℕ) (d : ℕ) → k < length bytes → get_or bytes k d < 256) → length bytes ≤ length m → stored byte_type m (byte_items bytes) ≡ bytes ++ drop (length bytes) m
unfolding stored encode
stored-bytes m [] f h = refl
stored-bytes [] (b ∷ bytes) f h = absurd (omega arith)
stored-bytes (c ∷ m) (b ∷ bytes) f h =
    let small : b < 256 = f 0 0 (omega arith) in
    let z : b % 256 ≡ b = omega (arith, small) in
    rw (stored-bytes m bytes (λ k d l. f (suc k) d (omega (arith, l))) (omega (arith, h)), z) refl
