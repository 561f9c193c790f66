-- Lists at the front of an array.
use Rattle.std.proofs.Common.{◌≡◌, ℕ, suc, ◌<◌, ◌≤◌, ◌+◌, ◌-◌, List, [], ◌∷◌, ◌++◌, length, take, drop, set, replicate, refl, ap, ◌∙◌, append_assoc, arith, length-append, length-drop}
use Rattle.std.proofs.lemmas.List.{take_at, take_more_set, drop-replicate, length-replicate, length-set, length-take-le}
use Rattle.std.proofs.Math.Seq.{set-append_seam}
use Rattle.strm_codes.specs.Padded.{padded, IsPadded}

-- a list, written over the front of an array of d
pub padded_new : {A : Type 0} (n : ℕ) (d : A) (xs : List A) → length xs ≤ n → IsPadded n d (xs ++ drop (length xs) (replicate n d)) (length xs)
padded_new n d xs h =
    let rest : drop (length xs) (replicate n d) ≡ replicate (n - length xs) d = drop-replicate (length xs) n d in
    record {
      most = h;
      whole = omega (arith, length-append xs (drop (length xs) (replicate n d)), length-drop (length xs) (replicate n d), length-replicate n d);
      behind = rw (take_at xs (drop (length xs) (replicate n d)) (length xs) refl, rest) refl;
    }

-- one element more behind a list at the front
padded_more : {A : Type 0} (n : ℕ) (d : A) (xs : List A) (k : ℕ) (x : A) → length xs ≡ k → k < n → set (padded n d xs) k x ≡ padded n d (xs ++ x ∷ [])
padded_more n d xs k x e h =
    let m = n - (length xs + 1) in
    let some : n - length xs ≡ suc m = omega (arith, e) in
    rw (← e, some, set-append_seam xs d (replicate m d) x, length-append xs (x ∷ []), append_assoc xs (x ∷ []) (replicate m d)) refl

-- the same where the list is in an array
pub padded_push : {A : Type 0} (n : ℕ) (d : A) (array : List A) (len : ℕ) (x : A) → IsPadded n d array len → len < n → IsPadded n d (set array len x) (len + 1)
padded_push n d array len x p h =
    let inside : len < length array = omega (arith, p.whole) in
    record {
      most = omega arith;
      whole = length-set array len x ∙ p.whole;
      behind = rw (take_more_set array len x inside)
          (ap (λ a. set a len x) p.behind ∙ padded_more n d (take len array) len x (length-take-le len array (omega arith)) h);
    }
