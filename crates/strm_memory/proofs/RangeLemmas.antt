-- Bytes written over others from a place on, up to their end, of either kind of memory.
use Rattle.std.proofs.Common.{◌≡◌, ℕ, ◌+◌, ◌≤◌, Bool, true, false, List, ◌++◌, length, take, drop, Option, ap, subst, ◌∙◌, append_assoc, arith, length-append, length-drop}
use Rattle.std.proofs.lemmas.List.{length-take-le, take-append-le}
use Rattle.std.proofs.Math.Seq.{take-append-add}
use Rattle.std.specs.Prelude.{if◌then◌else◌}
use Rattle.strm_memory.specs.Linear.{LinearMemory, Base, with_contents}
use Rattle.strm_memory.specs.Lending.{written_from}

-- as a vector puts them together
abbrev pub put_together : List ℕ → List ℕ → ℕ → ℕ → List ℕ
put_together m w at len = take len (take at m ++ (w ++ drop (length w) (drop at m)) ++ drop (length (take at m ++ (w ++ drop (length w) (drop at m)))) m)

-- it is the same
pub written_is : (m w : List ℕ) (at len : ℕ) → len ≡ length m → at ≤ length m → put_together m w at len ≡ written_from m at w
written_is m w at len e h =
    let front : List ℕ = take at m in
    let rest : List ℕ = drop at m in
    let over : List ℕ = w ++ drop (length w) rest in
    let back : List ℕ = drop (length (front ++ over)) m in
    let n : length front ≡ at = length-take-le at m h in
    let r = length-drop at m in
    let size : len ≡ length front + length rest = omega (arith, n, r, e, h) in
    let enough : length rest ≤ length over = omega (arith, length-append w (drop (length w) rest), length-drop (length w) rest) in
    ap (take len) (append_assoc front over back) ∙ ap (λ j. take j (front ++ (over ++ back))) size ∙ take-append-add front (over ++ back) (length rest)
    ∙ ap (λ l. front ++ l) (take-append-le (length rest) over back enough)

-- of a memory that is these bytes, wherever they lie
abbrev lying_at : Option Base → List ℕ → LinearMemory
lying_at base bytes = record { bytes = bytes; base = base }

pub range_written : (m : LinearMemory) (bytes w : List ℕ) (base : Option Base) (from to len : ℕ) → lying_at base bytes ≡ m → len ≡ length bytes → from ≤ to → to ≤ length m.bytes
    → lying_at base (put_together bytes w from len) ≡ with_contents m (written_from m.bytes from w)
range_written m bytes w base from to len e n h i =
    let there : LinearMemory = lying_at base bytes in
    let size : length bytes ≡ length m.bytes = ap (λ (x : LinearMemory). length x.bytes) e in
    subst (λ (x : LinearMemory). lying_at base (put_together bytes w from len) ≡ with_contents x (written_from x.bytes from w)) e
    (ap (λ (l : List ℕ). with_contents there l) (written_is bytes w from len n (omega (arith, h, i, size))))

-- of two kinds it is the first, or the second
pub then_is : (b : Bool) (x y m : LinearMemory) → b ≡ true → (if b then x else y) ≡ m → x ≡ m
then_is true x y m e v = v
then_is false x y m e v = cc

pub else_is : (b : Bool) (x y m : LinearMemory) → b ≡ false → (if b then x else y) ≡ m → y ≡ m
else_is true x y m e v = cc
else_is false x y m e v = v

pub then_still : (b : Bool) (x y m : LinearMemory) → b ≡ true → x ≡ m → (if b then x else y) ≡ m
then_still true x y m e v = v
then_still false x y m e v = cc

pub else_still : (b : Bool) (x y m : LinearMemory) → b ≡ false → y ≡ m → (if b then x else y) ≡ m
else_still true x y m e v = cc
else_still false x y m e v = v
