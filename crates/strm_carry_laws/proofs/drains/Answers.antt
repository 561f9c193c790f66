use Rattle.std.proofs.Common.{◌≡◌, ◌+◌, ◌*◌, ◌-◌, ◌<◌, ◌≤◌, ◌^◌, ℕ, zero, suc, Bool, true, List, [], ◌∷◌, ◌++◌, length, min, take, drop, refl, sym, ap, arith, length-append, length-drop, ◌∙◌}
use Rattle.std.proofs.lemmas.List.{length-take-le, drop-drop, take_at, append-nil}
use Rattle.strm_memory.specs.Bytes.{IsBytes}
use Rattle.strm_machine.specs.State.{State}
use Rattle.strm_machine.specs.declared.steps.Step.{Step}
use Rattle.strm_machine.specs.declared.steps.Step.TheVariants as steps
use Rattle.strm_carry_laws.specs.OneStream.{carried_type, reads_of}
use Rattle.strm_carry_laws.specs.Serving.{serving, Runs, Drains}
use Rattle.strm_carry_laws.proofs.RunLemmas.{runs_none, runs_step, runs_both, runs_as}
use Rattle.strm_carry_laws.proofs.drains.Goals as goal

take_both : (c k j : ℕ) (l : List ℕ) → j ≡ c + k → take j l ≡ take c l ++ take k (drop c l)
take_both zero k j l e = let z : j ≡ k = omega arith in rw z refl
take_both (suc c) k zero l e = absurd (omega arith)
take_both (suc c) k (suc j) [] e = none k
  where
    none : (k : ℕ) → let nothing : List ℕ = [] in nothing ≡ take k nothing
    none zero = refl
    none (suc k) = refl
take_both (suc c) k (suc j) (x ∷ l) e = ap (λ (s : List ℕ). x ∷ s) (take_both c k j l (omega arith))

drain_none : (m0 m1 : List ℕ) (n a i : ℕ) (met : Bool) → length m1 ≡ 64 → Drains m0 m1 n a 0 i met []
drain_none m0 m1 n a i met g =
    let nn : n ≡ n + 0 = omega arith in
    let ii : i ≡ i + 0 = omega arith in
    let same : serving m0 m1 n a 0 i met ≡ serving m0 m1 (n + 0) a 0 (i + 0) met =
    ap (λ (x : ℕ). serving m0 m1 x a 0 i met) nn ∙ ap (λ (x : ℕ). serving m0 m1 (n + 0) a 0 x met) ii in
    record {
      memory = m1;
      address = a;
      met_then = met;
      long = g;
      met_kept = λ z. z;
      met_is = λ z. absurd (omega arith);
      runs = runs_as _ _ _ [] [] [] [] [] same refl refl (runs_none (serving m0 m1 n a 0 i met));
    }

-- a read and its dump
pair : (c : goal.After-gets) (m0 m1 : List ℕ) (n a i j r : ℕ) (met : Bool) → IsBytes m0 → length m0 ≡ 64 → length m1 ≡ 64 → n + 64 < 2 ^ 128 → 0 < j → a + j ≤ 64 → 0 < r → r ≤ 64 →
    let k = min r j in let b = take k (drop a m0) in
    Runs (serving m0 m1 n a j i met) (serving m0 (b ++ drop k m1) (n + k) (a + k) (j - k) (i + k) true) (steps.Read 1 carried_type 1 0 r ∷ steps.Dump 1 0 k ∷ []) b b
pair c m0 m1 n a i j r met t h g u p q x y =
    let k : ℕ = min r j in
    let b : List ℕ = take k (drop a m0) in
    let mid : List ℕ = b ++ drop k m1 in
    let within : k ≤ length (drop a m0) = omega (arith, length-drop a m0) in
    let size : length b ≡ k = length-take-le k (drop a m0) within in
    let long : length mid ≡ 64 = omega (arith, length-append b (drop k m1), size, length-drop k m1) in
    let place : a + 1 * k ≡ a + k = omega arith in
    let s0 : State = serving m0 m1 n a j i met in
    let s1 : State = serving m0 mid (n + k) (a + k) (j - k) (i + k) true in
    let one = runs_step s0 (steps.Read 1 carried_type 1 0 r) _ b (c.serves.ensures m0 m1 n a i j r met t h g u p q x y) refl (c.gets.ensures.read m0 m1 n a i j r met t h g u p q x y) in
    let first : Runs s0 s1 (steps.Read 1 carried_type 1 0 r ∷ []) b [] =
    runs_as s0 _ s1 (steps.Read 1 carried_type 1 0 r ∷ []) b b [] [] (ap (λ (z : ℕ). serving m0 mid (n + k) z (j - k) (i + k) true) place) refl refl one in
    let second = runs_step s1 (steps.Dump 1 0 k) _ [] (c.dumps.ensures m0 mid (n + k) (a + k) (j - k) (i + k) k true long (omega arith) (omega arith)) refl (c.gets.ensures.dump m0 mid (n + k) (a + k) (j - k) (i + k) k true long (omega arith) (omega arith)) in
    runs_as s0 s1 s1 (steps.Read 1 carried_type 1 0 r ∷ steps.Dump 1 0 k ∷ []) (b ++ []) b (take k mid) b refl (append-nil b) (take_at b (drop k m1) k size)
    (runs_both s0 s1 s1 (steps.Read 1 carried_type 1 0 r ∷ []) (steps.Dump 1 0 k ∷ []) b [] [] (take k mid) first second)

drain_more : (m0 m1 mid : List ℕ) (n a i j k : ℕ) (met : Bool) (run more : List Step) → k ≤ j → 0 < k → let b = take k (drop a m0) in
    Runs (serving m0 m1 n a j i met) (serving m0 mid (n + k) (a + k) (j - k) (i + k) true) run b b → Drains m0 mid (n + k) (a + k) (j - k) (i + k) true more → Drains m0 m1 n a j i met (run ++ more)
drain_more m0 m1 mid n a i j k met run more l o first d =
    let b : List ℕ = take k (drop a m0) in
    let nn : n + k + (j - k) ≡ n + j = omega arith in
    let ii : i + k + (j - k) ≡ i + j = omega arith in
    let parts : take j (drop a m0) ≡ b ++ take (j - k) (drop k (drop a m0)) = take_both k (j - k) j (drop a m0) (omega arith) in
    let deeper : drop k (drop a m0) ≡ drop (a + k) m0 = drop-drop k a m0 in
    let all : b ++ take (j - k) (drop (a + k) m0) ≡ take j (drop a m0) = ap (λ (s : List ℕ). b ++ take (j - k) s) (sym deeper) ∙ sym parts in
    let to : State = serving m0 d.memory (n + k + (j - k)) d.address 0 (i + k + (j - k)) d.met_then in
    let other : State = serving m0 d.memory (n + j) d.address 0 (i + j) d.met_then in
    let same : to ≡ other = ap (λ (x : ℕ). serving m0 d.memory x d.address 0 (i + k + (j - k)) d.met_then) nn ∙ ap (λ (x : ℕ). serving m0 d.memory (n + j) d.address 0 x d.met_then) ii in
    record {
      memory = d.memory;
      address = d.address;
      met_then = d.met_then;
      long = d.long;
      met_kept = λ z. d.met_kept refl;
      met_is = λ z. d.met_kept refl;
      runs = runs_as _ to other (run ++ more) _ _ _ _ same all all (runs_both _ _ to run more b _ b _ first d.runs);
    }

drain : (c : goal.After-gets) (f r j : ℕ) (m0 m1 : List ℕ) (n a i : ℕ) (met : Bool) → j ≤ f → IsBytes m0 → length m0 ≡ 64 → length m1 ≡ 64 → n + j + 64 < 2 ^ 128 → a + j ≤ 64 → 0 < r → r ≤ 64 → Drains m0 m1 n a j i met (reads_of f r j)
unfolding reads_of
drain c zero r zero m0 m1 n a i met l t h g u q x y = drain_none m0 m1 n a i met g
drain c zero r (suc j) m0 m1 n a i met l t h g u q x y = absurd (omega arith)
drain c (suc f) r zero m0 m1 n a i met l t h g u q x y = drain_none m0 m1 n a i met g
drain c (suc f) r (suc j) m0 m1 n a i met l t h g u q x y =
    let k : ℕ = min r (suc j) in
    let b : List ℕ = take k (drop a m0) in
    let mid : List ℕ = b ++ drop k m1 in
    let within : k ≤ length (drop a m0) = omega (arith, length-drop a m0) in
    let long : length mid ≡ 64 = omega (arith, length-append b (drop k m1), length-take-le k (drop a m0) within, length-drop k m1) in
    let next = drain c f r (suc j - k) m0 mid (n + k) (a + k) (i + k) true (omega arith) t h long (omega (arith, u)) (omega arith) x y in
    drain_more m0 m1 mid n a i (suc j) k met (steps.Read 1 carried_type 1 0 r ∷ steps.Dump 1 0 k ∷ []) (reads_of f r (suc j - k)) (omega arith) (omega arith)
    (pair c m0 m1 n a i (suc j) r met t h g (omega (arith, u)) (omega arith) q x y) next

pub returns : goal.returns
returns c = drain c
