use Rattle.std.proofs.Common.{◌≡◌, ◌+◌, ℕ, Bool, true, false, List, [], ◌∷◌, ◌++◌, length, take, drop, refl, ap, arith, length-append, length-drop}
use Rattle.std.proofs.lemmas.List.{take_at, append-nil}
use Rattle.strm_memory.specs.Bytes.{IsBytes, put_at}
use Rattle.strm_machine.specs.State.{State}
use Rattle.strm_machine.specs.declared.steps.Step.{Step}
use Rattle.strm_machine.specs.declared.steps.Step.TheVariants as steps
use Rattle.strm_machine.proofs.ArrivalLemmas.{IsBytes-put_at}
use Rattle.strm_carry_laws.specs.OneStream.{carried_type, reads_of}
use Rattle.strm_carry_laws.specs.Serving.{rests, serving, Runs, Drains}
use Rattle.strm_carry_laws.proofs.RunLemmas.{runs_step, runs_both, runs_as}
use Rattle.strm_carry_laws.proofs.brings.Goals as goal

pub returns : goal.returns
returns c = λ r m0 m1 p n t u h g o l q x y.
    let w : List ℕ = put_at m0 0 p in
    let k : ℕ = length p in
    let wb : IsBytes w = IsBytes-put_at m0 0 p t u in
    let wl : length w ≡ 64 = omega (arith, length-append p (drop (0 + length p) m0), length-drop (0 + length p) m0) in
    let s0 : State = rests m0 m1 n in
    let s1 : State = rests w m1 n in
    let s2 : State = serving w m1 n 0 k 0 false in
    let reads : List Step = reads_of k r k in
    let d : Drains w m1 n 0 k 0 false reads = c.drains.ensures k r k w m1 n 0 0 false (omega arith) wb wl g (omega (arith, q)) (omega arith) x y in
    let m : d.met_then ≡ true = d.met_is o in
    let s3 : State = serving w d.memory (n + k) d.address 0 (0 + k) true in
    let s4 : State = rests w d.memory (n + k) in
    let all : take k (drop 0 w) ≡ p = take_at p (drop (0 + length p) m0) k refl in
    let poked : Runs s0 s1 (steps.Poke 0 0 p ∷ []) [] [] = runs_step s0 (steps.Poke 0 0 p) _ [] (c.pokes.ensures m0 m1 p n h o l) refl (c.gets.ensures.poke m0 m1 p n h o l) in
    let opened : Runs s1 s2 (steps.Write 0 carried_type 1 0 k ∷ []) [] [] = runs_step s1 (steps.Write 0 carried_type 1 0 k) _ [] (c.opens.ensures w m1 n k wl o l) refl (c.gets.ensures.write w m1 n k wl o l) in
    let drained : Runs s2 s3 reads p p = runs_as s2 _ s3 reads _ p _ p (ap (λ (b : Bool). serving w d.memory (n + k) d.address 0 (0 + k) b) m) all all d.runs in
    let told : Runs s3 s4 (steps.Event 0 1 ∷ []) [] [] = runs_step s3 (steps.Event 0 1) _ [] (c.tells.ensures w d.memory (n + k) d.address (0 + k)) refl (c.gets.ensures.event w d.memory (n + k) d.address (0 + k)) in
    let late : Runs s2 s4 (reads ++ steps.Event 0 1 ∷ []) (p ++ []) (p ++ []) = runs_both s2 s3 s4 reads (steps.Event 0 1 ∷ []) p [] p [] drained told in
    let early : Runs s0 s2 (steps.Poke 0 0 p ∷ steps.Write 0 carried_type 1 0 k ∷ []) [] [] = runs_both s0 s1 s2 (steps.Poke 0 0 p ∷ []) (steps.Write 0 carried_type 1 0 k ∷ []) [] [] [] [] poked opened in
    record {
      writer = w;
      reader = d.memory;
      are_bytes = wb;
      long = wl;
      long_too = d.long;
      runs = runs_as s0 s4 s4 _ (p ++ []) p (p ++ []) p refl (append-nil p) (append-nil p)
          (runs_both s0 s2 s4 (steps.Poke 0 0 p ∷ steps.Write 0 carried_type 1 0 k ∷ []) (reads ++ steps.Event 0 1 ∷ []) [] (p ++ []) [] (p ++ []) early late);
    }
