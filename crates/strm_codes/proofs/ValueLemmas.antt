-- The numbers of a value: at the front of its array, each in range.
use Rattle.std.proofs.Common.{ℕ, ◌+◌, ◌<◌, ◌≤◌, ℤ, pos, List, [], ◌∷◌, ◌++◌, length, take, drop, set, replicate, arith, refl}
use Rattle.std.specs.List.{All}
use Rattle.std.proofs.lemmas.List.{take_at, take_more_set}
use Rattle.std.proofs.lemmas.List.Elements.{All-append, All-cons, All-nil}
use Rattle.strm_codes.specs.Items.{IsNumber, AreNumbers}
use Rattle.strm_codes.proofs.PaddedLemmas.{padded_new, padded_push}

pub AreNumbers-new : (xs : List ℤ) → length xs ≤ 16 → All IsNumber xs → AreNumbers (xs ++ drop (length xs) (replicate 16 (pos 0))) (length xs)
AreNumbers-new xs few range =
    record {
      padded = padded_new 16 (pos 0) xs few;
      range = rw (take_at xs (drop (length xs) (replicate 16 (pos 0))) (length xs) refl) range;
    }

pub AreNumbers-push : (array : List ℤ) (len : ℕ) (x : ℤ) → AreNumbers array len → len < 16 → IsNumber x → AreNumbers (set array len x) (len + 1)
AreNumbers-push array len x are few is =
    let inside : len < length array = omega (arith, are.padded.whole) in
    record {
      padded = padded_push 16 (pos 0) array len x are.padded few;
      range = rw (take_more_set array len x inside) (All-append IsNumber (take len array) (x ∷ []) are.range (All-cons IsNumber x [] is (All-nil IsNumber)));
    }
