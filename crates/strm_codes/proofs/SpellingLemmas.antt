-- What words spell, and what stands behind them.
use Rattle.std.proofs.Common.{◌≡◌, ℕ, zero, suc, ◌+◌, ◌≤◌, ◌-◌, List, [], ◌∷◌, length, drop, refl, sym, ap, ◌∙◌, arith}
use Rattle.std.proofs.lemmas.List.{drop-drop}
use Rattle.strm_codes.specs.ItemTypes.{ItemType, part, count, most_align, most_size}
use Rattle.strm_codes.specs.Spellings.{units, taken, arity, type_with, spelled, behind, AreSpelled}
use Rattle.strm_codes.specs.declared.nodes.Node.{Node}

pub count-units : (n : ℕ) → count (units n) ≡ n
count-units zero = refl
count-units (suc n) = omega (arith, count-units n)

pub most_align-units : (n : ℕ) → most_align (units n) ≡ 1
most_align-units zero = refl
most_align-units (suc n) = omega (arith, most_align-units n)

pub most_size-units : (n : ℕ) → most_size (units n) ≡ 0
most_size-units zero = refl
most_size-units (suc n) = omega (arith, most_size-units n)

pub count-taken : (n : ℕ) (ts : List ItemType) → n ≤ length ts → count (taken n ts) ≡ n
count-taken zero ts h = refl
count-taken (suc n) [] h = absurd (omega arith)
count-taken (suc n) (t ∷ ts) h = omega (arith, count-taken n ts (omega (arith, h)))

pub spelled-behind : (m : ℕ) (ns : List Node) → spelled (behind m ns) ≡ drop m (spelled ns)
unfolding spelled behind
spelled-behind zero ns = refl
spelled-behind (suc m) [] = refl
spelled-behind (suc m) (n ∷ ns) = spelled-behind (arity n + m) ns ∙ sym (drop-drop m (arity n) (spelled ns))

pub length-behind : (m : ℕ) (ns : List Node) → length (behind m ns) ≤ length ns
unfolding behind
length-behind zero ns = omega arith
length-behind (suc m) [] = omega arith
length-behind (suc m) (n ∷ ns) = omega (arith, length-behind (arity n + m) ns)

pub AreSpelled-behind : (m : ℕ) (ns : List Node) → AreSpelled ns → AreSpelled (behind m ns)
unfolding behind AreSpelled
AreSpelled-behind zero ns s = s
AreSpelled-behind (suc m) [] s = s
AreSpelled-behind (suc m) (n ∷ ns) s = AreSpelled-behind (arity n + m) ns s.0

pub taken_first : (n : Node) (ns : List Node) (parts : ℕ) → 1 ≤ parts → taken parts (spelled (n ∷ ns)) ≡ part (type_with n (spelled ns)) (taken (parts - 1) (spelled (behind (arity n) ns)))
unfolding spelled
taken_first n ns parts h =
    let p : parts ≡ suc (parts - 1) = omega arith in
    ap (λ j. taken j (spelled (n ∷ ns))) p ∙ ap (λ ts. part (type_with n (spelled ns)) (taken (parts - 1) ts)) (sym (spelled-behind (arity n) ns))

pub behind-behind : (ns : List Node) (k m : ℕ) → behind (k + m) ns ≡ behind m (behind k ns)
unfolding behind
behind-behind ns zero m = let z : zero + m ≡ m = omega arith in ap (λ j. behind j ns) z
behind-behind [] (suc k) zero = let z : suc k + zero ≡ suc k = omega arith in rw z refl
behind-behind [] (suc k) (suc m) = let z : suc k + suc m ≡ suc (k + suc m) = omega arith in rw z refl
behind-behind (n ∷ ns) (suc k) m =
    let z : suc k + m ≡ suc (k + m) = omega arith in
    let y : arity n + (k + m) ≡ arity n + k + m = omega arith in
    rw z (ap (λ j. behind j ns) y ∙ behind-behind ns (arity n + k) m)

pub shorter_behind : (ns : List Node) (k m : ℕ) → k ≤ m → length (behind m ns) ≤ length (behind k ns)
shorter_behind ns k m h =
    let z : m ≡ k + (m - k) = omega arith in
    rw (z, behind-behind ns k (m - k)) (length-behind (m - k) (behind k ns))

pub none_spelled : (ns : List Node) → length ns ≡ 0 → length (spelled ns) ≡ 0
unfolding spelled
none_spelled [] e = refl
none_spelled (n ∷ ns) e = absurd (omega arith)
