-- Bytes put into bytes: one put after another, and bytes put where they are.
use Rattle.std.proofs.Common.{◌≡◌, ℕ, ◌+◌, ◌-◌, ◌<◌, ◌≤◌, ◌⊎◌, inl, inr, List, [], ◌++◌, length, take, drop, refl, sym, ap, ◌∙◌, append_assoc, arith, length-append, length-drop, get_or}
use Rattle.std.proofs.lemmas.List.{take_at, drop_at, drop-drop, take-append-drop, length-take-le, drop-append-le, drop_all}
use Rattle.strm_codes.specs.Layout.{byte_type}
use Rattle.strm_memory.specs.Bytes.{put_at, bytes_at}
use Rattle.strm_memory.specs.Items.{stored_at, byte_items}
use Rattle.strm_memory.proofs.AppendLemmas.{stored-bytes}
use Rattle.strm_buffers.specs.Windows.{last_bytes}

pub put_flat : (m : List ℕ) (at : ℕ) (s : List ℕ) → put_at m at s ≡ take at m ++ (s ++ drop (at + length s) m)
put_flat m at s = append_assoc (take at m) s (drop (at + length s) m)

-- bytes put where they are
pub put_at-same : (m : List ℕ) (at n : ℕ) → at + n ≤ length m → put_at m at (bytes_at m at n) ≡ m
put_at-same m at n h =
    let size : length (bytes_at m at n) ≡ n = length-take-le n (drop at m) (omega (arith, length-drop at m, h)) in
    put_flat m at (bytes_at m at n)
    ∙ ap (λ j. take at m ++ (bytes_at m at n ++ drop (at + j) m)) size
    ∙ ap (λ l. take at m ++ (bytes_at m at n ++ l)) (sym (drop-drop n at m))
    ∙ ap (λ l. take at m ++ l) (take-append-drop n (drop at m))
    ∙ take-append-drop at m

-- a put over the front of an earlier one
pub put_at-front : (m s t : List ℕ) (at : ℕ) → at + length s ≤ length m → length t ≤ length s → put_at (put_at m at s) at t ≡ take at m ++ (t ++ (drop (length t) s ++ drop (at + length s) m))
put_at-front m s t at h k =
    let front : List ℕ = take at m in
    let rest : List ℕ = drop (at + length s) m in
    let all : List ℕ = front ++ (s ++ rest) in
    let n : length front ≡ at = length-take-le at m (omega (arith, h)) in
    let behind : drop (at + length t) all ≡ drop (length t) s ++ rest =
    sym (drop-drop (length t) at all) ∙ ap (drop (length t)) (drop_at front (s ++ rest) at n) ∙ drop-append-le (length t) s rest k in
    ap (λ q. put_at q at t) (put_flat m at s) ∙ put_flat all at t
    ∙ ap (λ l. l ++ (t ++ drop (at + length t) all)) (take_at front (s ++ rest) at n)
    ∙ ap (λ l. front ++ (t ++ l)) behind

-- a put behind another
pub put_at-behind : (m t u : List ℕ) (at : ℕ) → at + length t + length u ≤ length m → put_at (put_at m at t) (at + length t) u ≡ take at m ++ (t ++ (u ++ drop (at + length t + length u) m))
put_at-behind m t u at h =
    let front : List ℕ = take at m in
    let rest : List ℕ = drop (at + length t) m in
    let all : List ℕ = front ++ (t ++ rest) in
    let n : length front ≡ at = length-take-le at m (omega (arith, h)) in
    let joined : all ≡ (front ++ t) ++ rest = sym (append_assoc front t rest) in
    let size : length (front ++ t) ≡ at + length t = length-append front t ∙ omega (arith, n) in
    let before : take (at + length t) all ≡ front ++ t = ap (take (at + length t)) joined ∙ take_at (front ++ t) rest (at + length t) size in
    let after : drop (at + length t + length u) all ≡ drop (at + length t + length u) m =
    sym (drop-drop (length u) (at + length t) all) ∙ ap (λ l. drop (length u) (drop (at + length t) l)) joined ∙ ap (drop (length u)) (drop_at (front ++ t) rest (at + length t) size) ∙ drop-drop (length u) (at + length t) m in
    ap (λ q. put_at q (at + length t) u) (put_flat m at t) ∙ put_flat all (at + length t) u
    ∙ ap (λ l. l ++ (u ++ drop (at + length t + length u) all)) before
    ∙ ap (λ l. (front ++ t) ++ (u ++ l)) after
    ∙ append_assoc front t (u ++ drop (at + length t + length u) m)

-- the rest of an earlier put, behind a put over its front
pub put_at-rest : (m s t : List ℕ) (at : ℕ) → at + length s ≤ length m → length t ≤ length s → put_at (put_at m at t) (at + length t) (drop (length t) s) ≡ put_at (put_at m at s) at t
put_at-rest m s t at h k =
    let n : length (drop (length t) s) ≡ length s - length t = length-drop (length t) s in
    let e : at + length t + length (drop (length t) s) ≡ at + length s = omega (arith, n, k) in
    put_at-behind m t (drop (length t) s) at (omega (arith, e, h)) ∙ ap (λ j. take at m ++ (t ++ (drop (length t) s ++ drop j m))) e ∙ sym (put_at-front m s t at h k)

-- bytes stored as items are put
pub stored_at-bytes : (m t : List ℕ) (at : ℕ) → ((k : ℕ) (d : ℕ) → k < length t → get_or t k d < 256) → at + length t ≤ length m → stored_at byte_type m at (byte_items t) ≡ put_at m at t
stored_at-bytes m t at f h =
    ap (λ l. take at m ++ l) (stored-bytes (drop at m) t f (omega (arith, length-drop at m, h)))
    ∙ ap (λ l. take at m ++ (t ++ l)) (drop-drop (length t) at m) ∙ sym (put_flat m at t)

-- no bytes put change nothing
pub put_at-nil : (m : List ℕ) (at : ℕ) → put_at m at [] ≡ m
put_at-nil m at = let e : at + 0 ≡ at = omega arith in put_flat m at [] ∙ ap (λ j. take at m ++ drop j m) e ∙ take-append-drop at m

pub length-put_at : (m s : List ℕ) (at : ℕ) → at + length s ≤ length m → length (put_at m at s) ≡ length m
length-put_at m s at h =
    let front = length-take-le at m (omega (arith, h)) in
    let whole = length-append (take at m) (s ++ drop (at + length s) m) in
    let behind = length-append s (drop (at + length s) m) in
    let rest = length-drop (at + length s) m in
    ap length (put_flat m at s) ∙ omega (arith, h, front, whole, behind, rest)

-- what lies before, in and behind bytes that were put
pub take-put_at : (m s : List ℕ) (at : ℕ) → at ≤ length m → take at (put_at m at s) ≡ take at m
take-put_at m s at h = ap (take at) (put_flat m at s) ∙ take_at (take at m) (s ++ drop (at + length s) m) at (length-take-le at m h)

pub from-put_at : (m s : List ℕ) (at : ℕ) → at ≤ length m → drop at (put_at m at s) ≡ s ++ drop (at + length s) m
from-put_at m s at h = ap (drop at) (put_flat m at s) ∙ drop_at (take at m) (s ++ drop (at + length s) m) at (length-take-le at m h)

pub drop-put_at : (m s : List ℕ) (at : ℕ) → at ≤ length m → drop (at + length s) (put_at m at s) ≡ drop (at + length s) m
drop-put_at m s at h = sym (drop-drop (length s) at (put_at m at s)) ∙ ap (drop (length s)) (from-put_at m s at h) ∙ drop_at s (drop (at + length s) m) (length s) refl

-- as many bytes put over others
pub put_at-over : (m s t : List ℕ) (at : ℕ) → at + length s ≤ length m → length t ≡ length s → put_at (put_at m at s) at t ≡ put_at m at t
put_at-over m s t at h e =
    let none : drop (length t) s ≡ [] = drop_all (length t) s (omega (arith, e)) in
    put_at-front m s t at h (omega (arith, e))
    ∙ ap (λ l. take at m ++ (t ++ (l ++ drop (at + length s) m))) none
    ∙ ap (λ j. take at m ++ (t ++ drop (at + j) m)) (sym e)
    ∙ sym (put_flat m at t)

-- the last of no bytes, of many bytes, and of these all but some
pub last_nil : (n : ℕ) → last_bytes n [] ≡ []
last_nil n = drop_all (0 - n) [] (omega arith)

pub length-last : (kept : List ℕ) (n : ℕ) → n ≤ length kept → length (last_bytes n kept) ≡ n
length-last kept n h = length-drop (length kept - n) kept ∙ omega (arith, h)

pub last_drop : (kept : List ℕ) (n k : ℕ) → n ≤ length kept → k ≤ n → drop k (last_bytes n kept) ≡ last_bytes (n - k) kept
last_drop kept n k h i = let e : length kept - n + k ≡ length kept - (n - k) = omega (arith, h, i) in drop-drop k (length kept - n) kept ∙ ap (λ j. drop j kept) e

-- the memory as it will be given back is one in which the bytes that were written count as marked
pub put_at-kept : (m kept t : List ℕ) (at left : ℕ) → (kept ≡ []) ⊎ (left ≤ length kept) → length t ≤ left → at + left ≤ length m → put_at (put_at m at t) (at + length t) (last_bytes (left - length t) kept) ≡ put_at (put_at m at (last_bytes left kept)) at t
put_at-kept m kept t at left (inl e) h i =
    let none : (n : ℕ) → last_bytes n kept ≡ [] = λ n. ap (last_bytes n) e ∙ last_nil n in
    ap (put_at (put_at m at t) (at + length t)) (none (left - length t)) ∙ put_at-nil (put_at m at t) (at + length t)
    ∙ sym (ap (λ l. put_at l at t) (ap (put_at m at) (none left) ∙ put_at-nil m at))
put_at-kept m kept t at left (inr k) h i =
    let size = length-last kept left k in
    ap (put_at (put_at m at t) (at + length t)) (sym (last_drop kept left (length t) k h))
    ∙ put_at-rest m (last_bytes left kept) t at (omega (arith, size, i)) (omega (arith, size, h))
