-- Regions of items: what the test of their bounds says, what is left of one, and what storing into one keeps.
use Rattle.std.proofs.Common.{◌≡◌, ℕ, ◌+◌, ◌-◌, ◌*◌, ◌<◌, ◌≤◌, ℤ, zero, suc, Some, false, List, [], ◌∷◌, ◌++◌, length, take, drop, get_or, add-zero, arith, length-append, length-take, length-drop}
use Rattle.std.proofs.lemmas.Bool.Decides.{nat_tests}
use Rattle.std.specs.Prelude.{nat_lt, ◌&&◌, ◌^◌}
use Rattle.strm_machine.specs.Words.{item_size, items_at, stored_at, put_at, ItemType}
use Rattle.strm_machine.specs.State.{size_limit}
use Rattle.strm_machine.specs.Soundness.{AreSmall}
use Rattle.strm_memory.specs.Region.{is_out_of_bounds, bytes_out_of_bounds}
use Rattle.strm_memory.proofs.RegionLemmas.{length-items, length-stored}
use Rattle.strm_memory.proofs.ByteLemmas.{length-put_at}

out_test : (size : ℕ) (w : ℕ) (address n : ℕ) → nat_lt 0 n && nat_lt 0 w && nat_lt size (address + w * n) ≡ false → 0 < n → 0 < w → address + w * n ≤ size
out_test size w address n e h k = grind (arith, nat_tests)

in_test : (size : ℕ) (w : ℕ) (address n : ℕ) → (0 < n → 0 < w → address + w * n ≤ size) → nat_lt 0 n && nat_lt 0 w && nat_lt size (address + w * n) ≡ false
in_test size w address n h = grind (arith, nat_tests)

-- items that take bytes, and don't pass the end
pub within : (size : ℕ) (ss : ItemType) (address n : ℕ) → is_out_of_bounds size ss address n ≡ false → 0 < n → 0 < item_size ss → address + item_size ss * n ≤ size
within size ss address n e h k = out_test size (item_size ss) address n e h k

pub not_out : (size : ℕ) (ss : ItemType) (address n : ℕ) → (0 < n → 0 < item_size ss → address + item_size ss * n ≤ size) → is_out_of_bounds size ss address n ≡ false
not_out size ss address n h = in_test size (item_size ss) address n h

-- the rest of a region, behind its first k items
pub not_out-rest : (size : ℕ) (ss : ItemType) (address n k : ℕ) → k ≤ n → is_out_of_bounds size ss address n ≡ false → is_out_of_bounds size ss (address + item_size ss * k) (n - k) ≡ false
not_out-rest size ss address n k h e =
    let w = item_size ss in
    let split : w * k + w * (n - k) ≡ w * n = rest_product w n k h in
    not_out size ss (address + w * k) (n - k) (λ p q. let whole = within size ss address n e (omega arith) q in omega (arith, whole, split))
  where
    rest_product : (w n k : ℕ) → k ≤ n → w * k + w * (n - k) ≡ w * n
    rest_product w n k h = grind arith

-- its first k items
pub not_out-front : (size : ℕ) (ss : ItemType) (address n k : ℕ) → k ≤ n → is_out_of_bounds size ss address n ≡ false → is_out_of_bounds size ss address k ≡ false
not_out-front size ss address n k h e =
    let w = item_size ss in
    not_out size ss address k (λ p q. let whole = within size ss address n e (omega arith) q in let less : w * k ≤ w * n = grind arith in omega (arith, whole, less))

-- what a region takes is room that the memory has behind its address
room_left : (size w to n : ℕ) → (0 < n → 0 < w → to + w * n ≤ size) → w * n ≤ size - to
room_left size zero to n k = omega arith
room_left size (suc w) to zero k = omega arith
room_left size (suc w) to (suc n) k = omega (arith, k (omega arith) (omega arith))

-- items stored in a region, no more than it holds, keep the memory's length
pub length-stored_front : (ss : ItemType) (memory : List ℕ) (to n : ℕ) (xs : List (List ℤ)) → length xs ≤ n → is_out_of_bounds (length memory) ss to n ≡ false → length (stored_at ss memory to xs) ≡ length memory
length-stored_front ss memory to n xs l h =
    let front = not_out-front (length memory) ss to n (length xs) l h in
    let room : item_size ss * length xs ≤ length memory - to = room_left (length memory) (item_size ss) to (length xs) (λ p q. within (length memory) ss to (length xs) front p q) in
    let same = length-stored ss (drop to memory) xs (omega (arith, room, length-drop to memory)) in
    rw (length-append, same) (omega (arith, length-take to memory, length-drop to memory))

-- so do items taken from one place and stored in such a region
pub length-stored_region : (ss : ItemType) (source memory : List ℕ) (from to n : ℕ) (xs : List (List ℤ)) → items_at ss source from n ≡ Some xs → is_out_of_bounds (length memory) ss to n ≡ false → length (stored_at ss memory to xs) ≡ length memory
length-stored_region ss source memory from to n xs i h = length-stored_front ss memory to n xs (omega (arith, length-items ss (drop from source) n xs i)) h

-- the address behind n items that lie in a memory of fewer than 2^32 bytes
pub address_room : (sizes : List ℕ) (g : ℕ) (ss : ItemType) (address n : ℕ) → g < length sizes → is_out_of_bounds (get_or sizes g 0) ss address n ≡ false → AreSmall sizes → address < 2 ^ 32 → address + item_size ss * n < 2 ^ 32
address_room sizes g ss address n l h s a =
    room (get_or sizes g 0) (item_size ss) address n (λ p q. within (get_or sizes g 0) ss address n h p q) (s g) a
  where
    room : (size w address n : ℕ) → (0 < n → 0 < w → address + w * n ≤ size) → size < size_limit → address < 2 ^ 32 → address + w * n < 2 ^ 32
    room size zero address n k s a = omega arith
    room size (suc w) address zero k s a = omega arith
    room size (suc w) address (suc n) k s a = omega (arith, k (omega arith) (omega arith))

-- a range of bytes that is not out of bounds
pub bytes_inside : (size address count : ℕ) → bytes_out_of_bounds size address count ≡ false → 0 < count → address + count ≤ size
bytes_inside size address count e h = grind (arith, nat_tests)

-- bytes put where they don't pass the end keep the memory's length
pub length-poked : (memory : List ℕ) (address : ℕ) (bytes : List ℕ) → bytes_out_of_bounds (length memory) address (length bytes) ≡ false → length (put_at memory address bytes) ≡ length memory
length-poked memory address [] h =
    let e : length (drop (address + 0) memory) ≡ length memory - address = rw add-zero (length-drop address memory) in
    omega (arith, e, length-append (take address memory ++ []) (drop (address + 0) memory), length-append (take address memory) [], length-take address memory)
length-poked memory address (b ∷ bytes) h = length-put_at memory address (b ∷ bytes) (bytes_inside (length memory) address (length (b ∷ bytes)) h (omega arith))
