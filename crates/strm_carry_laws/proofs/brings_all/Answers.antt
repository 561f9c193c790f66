use Rattle.std.proofs.Common.{◌≡◌, ◌+◌, ◌<◌, ◌≤◌, ◌^◌, ℕ, zero, suc, List, [], ◌∷◌, ◌++◌, length, min, take, drop, refl, sym, ap, arith, length-append, length-take}
use Rattle.std.proofs.lemmas.List.{take-append-drop}
use Rattle.strm_memory.specs.Bytes.{IsBytes}
use Rattle.strm_memory.proofs.ByteLemmas.{IsBytes-take, IsBytes-drop}
use Rattle.strm_machine.specs.State.{State}
use Rattle.strm_machine.specs.declared.steps.Step.{Step}
use Rattle.strm_carry_laws.specs.OneStream.{piece_of, piece_steps}
use Rattle.strm_carry_laws.specs.Serving.{rests, Brings}
use Rattle.strm_carry_laws.proofs.RunLemmas.{runs_none, runs_both, runs_as}
use Rattle.strm_carry_laws.proofs.brings_all.Goals as goal

-- one run of pieces after another
both : (m0 m1 xs ys all : List ℕ) (n : ℕ) (run more : List Step) (a : Brings m0 m1 n xs run) → xs ++ ys ≡ all → Brings a.writer a.reader (n + length xs) ys more → Brings m0 m1 n all (run ++ more)
both m0 m1 xs ys all n run more a e b =
    let count : n + length xs + length ys ≡ n + length all = omega (arith, ap length e, length-append xs ys) in
    let to : State = rests b.writer b.reader (n + length xs + length ys) in
    let other : State = rests b.writer b.reader (n + length all) in
    record {
      writer = b.writer;
      reader = b.reader;
      are_bytes = b.are_bytes;
      long = b.long;
      long_too = b.long_too;
      runs = runs_as _ to other (run ++ more) (xs ++ ys) all (xs ++ ys) all (ap (λ (x : ℕ). rests b.writer b.reader x) count) e e (runs_both _ _ to run more xs ys xs ys a.runs b.runs);
    }

nothing : (m0 m1 : List ℕ) (n : ℕ) → IsBytes m0 → length m0 ≡ 64 → length m1 ≡ 64 → Brings m0 m1 n [] []
nothing m0 m1 n t h g =
    let count : n ≡ n + 0 = omega arith in
    record {
      writer = m0;
      reader = m1;
      are_bytes = t;
      long = h;
      long_too = g;
      runs = runs_as _ _ (rests m0 m1 (n + 0)) [] [] [] [] [] (ap (λ (x : ℕ). rests m0 m1 x) count) refl refl (runs_none (rests m0 m1 n));
    }

all : (c : goal.After-brings) (f w r : ℕ) (m0 m1 bytes : List ℕ) (n : ℕ) → length bytes ≤ f → IsBytes m0 → IsBytes bytes → length m0 ≡ 64 → length m1 ≡ 64 → n + length bytes + 128 < 2 ^ 128 → 0 < w → w ≤ 64 → 0 < r → r ≤ 64 → Brings m0 m1 n bytes (piece_steps f w r bytes)
unfolding piece_steps
all c zero w r m0 m1 [] n l t u h g q x y z v = nothing m0 m1 n t h g
all c zero w r m0 m1 (b ∷ bytes) n l t u h g q x y z v = absurd (omega arith)
all c (suc f) w r m0 m1 [] n l t u h g q x y z v = nothing m0 m1 n t h g
all c (suc f) w r m0 m1 (b ∷ bytes) n l t u h g q x y z v =
    let p : List ℕ = take w (b ∷ bytes) in
    let rest : List ℕ = drop w (b ∷ bytes) in
    let pl : length p ≡ min w (length (b ∷ bytes)) = length-take w (b ∷ bytes) in
    let parts : length p + length rest ≡ length (b ∷ bytes) = omega (arith, sym (length-append p rest), ap length (take-append-drop w (b ∷ bytes))) in
    let first = c.brings.ensures r m0 m1 p n t (IsBytes-take (b ∷ bytes) w u) h g (omega (arith, pl)) (omega (arith, pl)) (omega (arith, q)) z v in
    let next = all c f w r first.writer first.reader rest (n + length p) (omega (arith, pl, parts)) first.are_bytes (IsBytes-drop (b ∷ bytes) w u) first.long first.long_too (omega (arith, q, parts)) x y z v in
    both m0 m1 p rest (b ∷ bytes) n (piece_of r p) (piece_steps f w r rest) first (take-append-drop w (b ∷ bytes)) next

pub returns : goal.returns
returns c = all c
