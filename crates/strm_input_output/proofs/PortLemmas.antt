-- Bytes that leave the front of what a source has left, and that a sink appends, in pieces.
use Rattle.std.proofs.Common.{None, Some, Option, append_assoc, ◌≡◌, ℕ, ◌+◌, ◌<◌, ◌≤◌, List, [], ◌++◌, length, length-append, take, drop, refl, sym, ◌∙◌, ap, arith, length-drop, length-take-le, drop-drop}
use Rattle.std.proofs.Math.Seq.{take-add}
use Rattle.std.specs.Prelude.{Result, Ok, Err, IfOk, IfSome, ◌↔◌}
use Rattle.std.specs.Io.{ReadsAtMost}
use Rattle.std.specs.Io.KnownBytes.{Appends, Consumes, ReadConsumes}
use Rattle.std.proofs.lemmas.List.{take_at, take-append-drop}

-- the first n of the bytes from a place on stand at the front of out, and the others are left
pub given_front : (left bytes piece out : List ℕ) (at n k : ℕ) → drop at bytes ≡ left → piece ≡ take k (drop at bytes) → k ≡ n → at + n ≤ length bytes → left ≡ take n (piece ++ drop n out) ++ drop (at + n) bytes
given_front left bytes piece out at n k e p q h =
    let count : length piece ≡ n = omega (arith, ap length p, length-take-le k (drop at bytes), length-drop at bytes) in
    let front : take n (piece ++ drop n out) ≡ take n (drop at bytes) = take_at piece (drop n out) n count ∙ p ∙ ap (λ m. take m (drop at bytes)) q in
    let back : drop (at + n) bytes ≡ drop n (drop at bytes) = sym (drop-drop n at bytes) in
    rw (front, back, take-append-drop n (drop at bytes)) (sym e)

-- what is appended in pieces
pub Appends-append : (a b c : Option (List ℕ)) (xs ys : List ℕ) → Appends a b xs → Appends b c ys → Appends a c (xs ++ ys)
Appends-append None b c xs ys p q = tt
Appends-append (Some old) None c xs ys p q = absurd p
Appends-append (Some old) (Some mid) None xs ys p q = absurd q
Appends-append (Some old) (Some mid) (Some new) xs ys p q = rw (q, p, append_assoc)

-- d bytes, and n more
pub Appends-take : (a b c : Option (List ℕ)) (bytes : List ℕ) (d n : ℕ) → Appends a b (take d bytes) → Appends b c (take n (drop d bytes)) → Appends a c (take (d + n) bytes)
Appends-take a b c bytes d n p q = rw take-add (Appends-append a b c (take d bytes) (take n (drop d bytes)) p q)

-- what is read in pieces
pub Consumes-append : (a b c : Option (List ℕ)) (xs ys : List ℕ) → Consumes a b xs → Consumes b c ys → Consumes a c (xs ++ ys)
Consumes-append None b c xs ys p q = tt
Consumes-append (Some old) None c xs ys p q = absurd p
Consumes-append (Some old) (Some mid) None xs ys p q = absurd q
Consumes-append (Some old) (Some mid) (Some new) xs ys p q = rw (p, q, append_assoc)

-- a read gives nothing exactly where nothing is left, also where its answer is handed on
pub ends_handed : {E F : Type 0} (old new : Option (List ℕ)) (given : Result ℕ E) (result : Result ℕ F) (out : List ℕ) → 0 < length out → ReadsAtMost given out → ReadConsumes old new given out → IfOk result (λ n. given ≡ Ok n) → IfOk result (λ n. IfSome old (λ bytes. (n ≡ 0) ↔ (bytes ≡ [])))
ends_handed old new given (Err error) out some most bytes e = tt
ends_handed None new given (Ok n) out some most bytes e = tt
ends_handed (Some left) None given (Ok n) out some most bytes e = absurd (rw e at bytes).0
ends_handed (Some left) (Some rest) given (Ok n) out some most bytes e =
    let took : (left ≡ take n out ++ rest) × (n ≡ 0 → 0 < length out → rest ≡ []) = rw e at bytes in
    let within : (n ≤ length out) × (n ≡ length (take n out)) = rw e at most in (
      (λ z. took.0 ∙ rw (z, took.1 z some) refl),
      (λ q. omega (arith, ap length (sym took.0 ∙ q), length-append (take n out) rest, within.1)),
    )
