-- That bytes are so many items with none left over, by how many good ones are found in them.
use Rattle.std.proofs.Common.{◌≡◌, ℕ, ◌+◌, ◌*◌, ◌≤◌, Bool, true, false, List, length, take, drop, Option, Some, None, refl, sym, ap, ◌∙◌, arith}
use Rattle.std.proofs.Math.Nat.{mul-le-mul_left}
use Rattle.std.proofs.lemmas.List.{take-take}
use Rattle.std.specs.Prelude.{nat_eq, is_some, ◌&&◌}
use Rattle.std.proofs.lemmas.Bool.Decides.{nat_tests}
use Rattle.strm_codes.specs.Layout.{item_type}
use Rattle.strm_codes.specs.ItemTypes.{item_size, ItemType}
use Rattle.strm_codes.specs.declared.payloads.Payload.{Payload}
use Rattle.strm_memory.specs.Bytes.{IsBytes}
use Rattle.strm_memory.specs.Items.{items, good_items}
use Rattle.strm_memory.proofs.RegionLemmas.{AreItems-items}
use Rattle.strm_memory.proofs.GoodLemmas.{length-good_items, good_counted, good_are}
use Rattle.strm_memory.proofs.ByteLemmas.{IsBytes-drop}
use Rattle.strm_buffers.specs.Listing.{Item, items_in}
use Rattle.strm_buffers.proofs.ListingLemmas.{Lie, lie_made, lie_same}
use Rattle.strm_ready_ends.specs.Wholes.{are_whole, AreWhole}

-- as many good ones are found as are looked for exactly where all are items
pub good_if_all : (ss : ItemType) (bytes : List ℕ) (n : ℕ) → nat_eq (length (good_items ss bytes n)) n ≡ is_some (items ss bytes n)
good_if_all ss bytes n = go (items ss bytes n) refl
  where
    none : nat_eq (length (good_items ss bytes n)) n ≡ true → items ss bytes n ≡ None → ⊥
    none e p =
        let all : length (good_items ss bytes n) ≡ n = grind (arith, nat_tests) in
        let some : items ss bytes n ≡ Some (good_items ss bytes n) = ap (items ss bytes) (sym all) ∙ good_are ss bytes n in
        cc

    decided : (b : Bool) → nat_eq (length (good_items ss bytes n)) n ≡ b → items ss bytes n ≡ None → nat_eq (length (good_items ss bytes n)) n ≡ false
    decided true e p = absurd (none e p)
    decided false e p = e

    go : (o : Option (List Item)) → items ss bytes n ≡ o → nat_eq (length (good_items ss bytes n)) n ≡ is_some o
    go None p = decided (nat_eq (length (good_items ss bytes n)) n) refl p
    go (Some xs) p =
        let all : length (good_items ss bytes n) ≡ n = omega (arith, good_counted ss bytes n n xs (omega arith) p, length-good_items ss bytes n) in
        grind (arith, nat_tests)

-- both parts of a conjunction
pub both_true : (a b : Bool) → (a && b) ≡ true → (a ≡ true) × (b ≡ true)
both_true true b e = (refl, e)
both_true false b e = cc

-- where they lie
pub whole_lies : (payload : Payload) (bytes : List ℕ) (count : ℕ) → IsBytes bytes → are_whole payload bytes count ≡ true → AreWhole payload bytes count
whole_lies payload bytes count b e = go (items ss bytes count) refl
  where
    ss : ItemType
    ss = item_type payload

    parts : (nat_eq (length bytes) (item_size ss * count) ≡ true) × (is_some (items ss bytes count) ≡ true)
    parts = both_true (nat_eq (length bytes) (item_size ss * count)) (is_some (items ss bytes count)) e

    size : length bytes ≡ item_size ss * count
    size = let p : nat_eq (length bytes) (item_size ss * count) ≡ true = parts.0 in grind (arith, nat_tests)

    go : (o : Option (List Item)) → items ss bytes count ≡ o → AreWhole payload bytes count
    go None p = let q : is_some (items ss bytes count) ≡ true = parts.1 in cc
    go (Some xs) p = record { all = size; lie = (lie_made ss bytes 0 count xs (omega (arith, size)) p (AreItems-items ss bytes count xs b p)).lie }

-- some items at the front of others take no more bytes
pub good_inside : (payload : Payload) (len from count n : ℕ) → n ≤ count → from + item_size (item_type payload) * count ≤ len → from + item_size (item_type payload) * n ≤ len
good_inside payload len from count n few room = let less = mul-le-mul_left (item_size (item_type payload)) few in omega (arith, less, room)

-- the good items at the front of so many, as the bytes of their own that they take, cut off behind a place
pub record IsGoodFront (payload : Payload) (bytes behind front : List ℕ) (from count n size : ℕ) : Type 0 where
  pub good : n ≡ length (good_items (item_type payload) (drop from bytes) count)
  pub inside : from + item_size (item_type payload) * n ≤ length bytes
  pub size_is : size ≡ item_size (item_type payload)
  pub rest : behind ≡ drop from bytes
  pub cut : front ≡ take (size * n) behind
  pub len : length front ≡ size * n

pub good_lie : (payload : Payload) (bytes behind front : List ℕ) (from count n size : ℕ) → IsBytes bytes → IsGoodFront payload bytes behind front from count n size
    → Lie (item_type payload) front 0 n (items_in (item_type payload) bytes from n)
good_lie payload bytes behind front from count n size b f =
    let ss = item_type payload in
    let good = good_items ss (drop from bytes) count in
    let are : items ss (drop from bytes) n ≡ Some good = ap (items ss (drop from bytes)) f.good ∙ good_are ss (drop from bytes) count in
    let fit = AreItems-items ss (drop from bytes) n good (IsBytes-drop bytes from b) are in
    let there = lie_made ss bytes from n good f.inside are fit in
    let bytes_are : front ≡ take (item_size ss * n) (drop from bytes) = f.cut ∙ rw (f.size_is, f.rest) refl in
    let same : take (item_size ss * n) (drop 0 front) ≡ take (item_size ss * n) (drop from bytes) =
    ap (take (item_size ss * n)) bytes_are ∙ take-take (item_size ss * n) (item_size ss * n) (drop from bytes) (omega arith) in
    let all : length front ≡ item_size ss * n = f.len ∙ ap (λ k. k * n) f.size_is in
    lie_same ss bytes front from 0 n there.lie same (omega (arith, all))
