-- Items of lists that follow one another.
use Rattle.std.proofs.Common.{◌≡◌, ℕ, zero, suc, ◌+◌, ◌<◌, ◌≤◌, List, [], ◌∷◌, ◌++◌, length, drop, flat_map, slice_get, slice_index_or, Some, refl, sym, ap, ◌∙◌, arith}
use Rattle.std.proofs.lemmas.List.{append_assoc, drop_more}
use Rattle.std.proofs.lemmas.Option.{slice_get_read}
use Rattle.std.proofs.Math.ListN.{drop_of_length-le}

-- an item of the first list is there in both
pub slice_get-first : {X : Type 0} (xs ys : List X) (i : ℕ) → i < length xs → slice_get (xs ++ ys) i ≡ slice_get xs i
slice_get-first [] ys i h = absurd (omega (arith, h))
slice_get-first (x ∷ xs) ys zero h = refl
slice_get-first (x ∷ xs) ys (suc i) h = slice_get-first xs ys i (omega (arith, h))

-- and one behind it is of the second
pub slice_get-behind : {X : Type 0} (xs ys : List X) (i j : ℕ) → i ≡ length xs + j → slice_get (xs ++ ys) i ≡ slice_get ys j
slice_get-behind [] ys i j h = ap (slice_get ys) (omega (arith, h))
slice_get-behind (x ∷ xs) ys zero j h = absurd (omega (arith, h))
slice_get-behind (x ∷ xs) ys (suc i) j h = slice_get-behind xs ys i j (omega (arith, h))

-- WALKS OVER BLOCKS

open_block : {B T : Type 0} (f : B → List T) (bs : List B) (k : ℕ) (b : B) (end : List T) → k < length bs → b ≡ slice_index_or bs k b
    → flat_map f (drop k bs) ++ end ≡ f b ++ (flat_map f (drop (k + 1) bs) ++ end)
open_block f bs k b end h is =
    ap (λ l. flat_map f l ++ end) (drop_more bs k b h)
    ∙ (ap (λ c. (f c ++ flat_map f (drop (k + 1) bs)) ++ end) (sym is)
    ∙ append_assoc (f b) (flat_map f (drop (k + 1) bs)) end)

-- the item is in the block at which the walk is
pub stays : {B T : Type 0} (f : B → List T) (bs : List B) (k : ℕ) (b : B) (end : List T) (i : ℕ) (x : T) → k < length bs → b ≡ slice_index_or bs k b
    → i < length (f b) → x ≡ slice_index_or (f b) i x → slice_get (flat_map f (drop k bs) ++ end) i ≡ Some x
stays f bs k b end i x h is small there =
    ap (λ l. slice_get l i) (open_block f bs k b end h is)
    ∙ (slice_get-first (f b) _ i small ∙ slice_get_read (f b) (length (f b)) i x refl small there)

-- or behind it
pub goes_on : {B T : Type 0} (f : B → List T) (bs : List B) (k : ℕ) (b : B) (end : List T) (i j : ℕ) → k < length bs → b ≡ slice_index_or bs k b
    → i ≡ length (f b) + j → slice_get (flat_map f (drop k bs) ++ end) i ≡ slice_get (flat_map f (drop (k + 1) bs) ++ end) j
goes_on f bs k b end i j h is there =
    ap (λ l. slice_get l i) (open_block f bs k b end h is) ∙ slice_get-behind (f b) (flat_map f (drop (k + 1) bs) ++ end) i j there

-- behind the last block
pub ends : {B T : Type 0} (f : B → List T) (bs : List B) (k : ℕ) (end : List T) (i : ℕ) → length bs ≤ k
    → slice_get (flat_map f (drop k bs) ++ end) i ≡ slice_get end i
ends f bs k end i h = ap (λ l. slice_get (flat_map f l ++ end) i) (drop_of_length-le bs h)
