-- Numbers as bytes.
use Rattle.std.proofs.Common.{◌≡◌, ℕ, zero, suc, ◌+◌, ◌*◌, ◌^◌, ◌<◌, ◌≤◌, ◌%◌, ◌/◌, ◌-◌, List, [], ◌∷◌, ◌++◌, length, take, drop, get_or, set, refl, sym, ap, add-one, append_assoc, arith, length-drop, length-append, ◌∙◌}
use Rattle.std.proofs.lemmas.List.{length-take-le, drop-drop, get_or-drop, drop_more, set_split, take_more_set, drop-set-lt, take-append-le, drop-append-le}
use Rattle.std.proofs.lemmas.Simd.{put_chunk_is}
use Rattle.std.proofs.Math.Seq.{take-add}
use Rattle.std.proofs.Math.Nat.{pow-suc}
use lib.Lanes.{put_chunk}
use Rattle.strm_memory.specs.Bytes.{le, to_le, put_at, IsBytes}

pub le-append : (xs ys : List ℕ) → le (xs ++ ys) ≡ le xs + 256 ^ length xs * le ys
le-append [] ys = omega arith
le-append (x ∷ xs) ys = rw (le-append xs ys, pow-suc) (omega arith)

-- a number of n bytes, and the next m bytes above it
le-halves : (bytes : List ℕ) (at n m : ℕ) → at + n ≤ length bytes → le (take (n + m) (drop at bytes)) ≡ le (take n (drop at bytes)) + 256 ^ n * le (take m (drop (at + n) bytes))
le-halves bytes at n m h =
    let small : n ≤ length (drop at bytes) = omega (arith, length-drop at bytes) in
    rw (take-add n m (drop at bytes), le-append, length-take-le n (drop at bytes) small, drop-drop n at bytes) refl

pub halves_1 : (bytes : List ℕ) (at : ℕ) → at + 2 ≤ length bytes → le (take 2 (drop at bytes)) ≡ le (take 1 (drop at bytes)) + 256 * le (take 1 (drop (at + 1) bytes))
halves_1 bytes at h = le-halves bytes at 1 1 (omega arith)

pub halves_2 : (bytes : List ℕ) (at : ℕ) → at + 4 ≤ length bytes → le (take 4 (drop at bytes)) ≡ le (take 2 (drop at bytes)) + 65536 * le (take 2 (drop (at + 2) bytes))
halves_2 bytes at h = le-halves bytes at 2 2 (omega arith)

pub halves_4 : (bytes : List ℕ) (at : ℕ) → at + 8 ≤ length bytes → le (take 8 (drop at bytes)) ≡ le (take 4 (drop at bytes)) + 4294967296 * le (take 4 (drop (at + 4) bytes))
halves_4 bytes at h = le-halves bytes at 4 4 (omega arith)

pub length-to_le : (width n : ℕ) → length (to_le width n) ≡ width
length-to_le zero n = refl
length-to_le (suc width) n = omega (arith, length-to_le width (n / 256))

-- a number that its bytes have room for comes back
pub le-to_le : (width n : ℕ) → n < 256 ^ width → le (to_le width n) ≡ n
le-to_le zero n h = omega arith
le-to_le (suc width) n h =
    let room : n < 256 ^ width * 256 = rw pow-suc at h in
    let rest : le (to_le width (n / 256)) ≡ n / 256 = le-to_le width (n / 256) (omega arith) in
    omega (arith, rest)

-- bytes come back from the number that they spell
pub to_le-le : (bytes : List ℕ) → IsBytes bytes → to_le (length bytes) (le bytes) ≡ bytes
to_le-le [] h = refl
to_le-le (b ∷ bytes) h =
    let small : b < 256 = h 0 in
    let low : (b + 256 * le bytes) % 256 ≡ b = omega arith in
    let high : (b + 256 * le bytes) / 256 ≡ le bytes = omega arith in
    rw (low, high) (ap (λ t. b ∷ t) (to_le-le bytes (λ k. h (suc k))))

pub IsBytes-drop : (bytes : List ℕ) (n : ℕ) → IsBytes bytes → IsBytes (drop n bytes)
IsBytes-drop bytes n h k = rw (get_or-drop n bytes k 0) (h (n + k))

pub IsBytes-take : (bytes : List ℕ) (n : ℕ) → IsBytes bytes → IsBytes (take n bytes)
IsBytes-take bytes zero h k = omega arith
IsBytes-take [] (suc n) h k = omega arith
IsBytes-take (b ∷ bytes) (suc n) h zero = h 0
IsBytes-take (b ∷ bytes) (suc n) h (suc k) = IsBytes-take bytes n (λ j. h (suc j)) k

pub le-lt : (bytes : List ℕ) → IsBytes bytes → le bytes < 256 ^ length bytes
le-lt [] h = omega arith
le-lt (b ∷ bytes) h = rw pow-suc (omega (arith, h 0, le-lt bytes (λ k. h (suc k))))

-- one byte written
pub set-put_at : (m : List ℕ) (at x : ℕ) → at < length m → set m at x ≡ put_at m at (x ∷ [])
set-put_at m at x h = rw (set_split m at x h, add-one) (sym (append_assoc (take at m) (x ∷ []) (drop (suc at) m)))

-- one byte read
pub take-one : (m : List ℕ) (at : ℕ) → at < length m → take 1 (drop at m) ≡ get_or m at 0 ∷ []
take-one m at h = rw (drop_more m at 0 h) refl

pub le-take-lt : (width : ℕ) (bytes : List ℕ) → IsBytes bytes → le (take width bytes) < 256 ^ width
le-take-lt zero bytes h = omega arith
le-take-lt (suc width) [] h = rw pow-suc (omega (arith, le-take-lt width [] h))
le-take-lt (suc width) (b ∷ bytes) h =
    let tail : IsBytes bytes = λ k. h (suc k) in
    rw pow-suc (omega (arith, h 0, le-take-lt width bytes tail))

-- one byte of a number stored, and the rest behind it
put_at-cons : (m : List ℕ) (at x : ℕ) (xs : List ℕ) → at < length m → put_at (set m at x) (at + 1) xs ≡ put_at m at (x ∷ xs)
put_at-cons m at x xs h =
    let past : at < at + 1 + length xs = omega arith in
    let same : at + 1 + length xs ≡ at + length (x ∷ xs) = omega arith in
    rw (take_more_set m at x h, drop-set-lt (at + 1 + length xs) m at x past, same) (simp append_assoc)

to_le-more : (width k n : ℕ) → k < width → to_le (width - k) n ≡ n % 256 ∷ to_le (width - (k + 1)) (n / 256)
to_le-more width k n h =
    let e : width - k ≡ suc (width - (k + 1)) = omega arith in
    rw e refl

pub store_more : (m : List ℕ) (at width k n : ℕ) → at + width ≤ length m → k < width → put_at (set m (at + k) (n % 256)) (at + (k + 1)) (to_le (width - (k + 1)) (n / 256)) ≡ put_at m (at + k) (to_le (width - k) n)
store_more m at width k n h less =
    let inside : at + k < length m = omega arith in
    let next : at + (k + 1) ≡ at + k + 1 = omega arith in
    rw (to_le-more width k n less, next) (put_at-cons m (at + k) (n % 256) (to_le (width - (k + 1)) (n / 256)) inside)

pub length-put_at : (memory : List ℕ) (address : ℕ) (new : List ℕ) → address + length new ≤ length memory → length (put_at memory address new) ≡ length memory
length-put_at memory address new h =
    rw (length-append, length-append, length-take-le address memory (omega arith), length-drop) (omega arith)

-- bytes put behind others
pub put_at-behind : (m : List ℕ) (to start : ℕ) (new : List ℕ) → put_at m (to + start) new ≡ take to m ++ put_at (drop to m) start new
put_at-behind m to start new =
    let e : to + start + length new ≡ to + (start + length new) = omega arith in
    rw (take-add to start m, drop-drop (start + length new) to m, e) (simp append_assoc)

-- bytes put before others
pub put_at-append : (xs ys : List ℕ) (start : ℕ) (new : List ℕ) → start + length new ≤ length xs → put_at (xs ++ ys) start new ≡ put_at xs start new ++ ys
put_at-append xs ys start new h =
    rw (take-append-le start xs ys (omega arith), drop-append-le (start + length new) xs ys h) (simp append_assoc)

-- bytes stored as a vector's lanes
pub put_chunk-put_at : (m : List ℕ) (to : ℕ) (new : List ℕ) → to + length new ≤ length m → put_chunk to m new ≡ put_at m to new
put_chunk-put_at m to new h =
    put_chunk_is to m new h
    ∙ ap (λ rest. take to m ++ (new ++ rest)) (drop-drop (length new) to m)
    ∙ sym (append_assoc (take to m) new (drop (to + length new) m))
