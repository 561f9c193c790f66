-- How many bytes the streams of a chain carry at most.
use Rattle.std.proofs.Common.{◌≡◌, ℕ, zero, suc, ◌+◌, ◌*◌, ◌<◌, ◌≤◌, ◌==◌, ◌%◌, Bool, true, false, List, [], ◌∷◌, ◌++◌, length, take, refl, sym, ap, ◌∙◌, subst, arith}
use Rattle.std.specs.Prelude.{filter, not, if◌then◌else◌}
use Rattle.std.proofs.lemmas.Bool.{cond_both}
use Rattle.std.proofs.lemmas.List.{length-map, take_more}
use Rattle.strm_machine.specs.State.{stream_at}
use Rattle.strm_machine.specs.Moments.{moved_of, received}
use Rattle.strm_chain.specs.declared.stages.Stage.{Stage}
use Rattle.strm_chain.specs.declared.stages.Stage.TheVariants as stages
use Rattle.strm_chain.specs.declared.stages.Stage.TheVariants.{Copy}
use Rattle.strm_chain.specs.declared.workers.Worker.{Worker}
use Rattle.strm_chain.specs.Stages.{of, twice, sums}
use Rattle.strm_chain.specs.Faults.{is_twice}
use Rattle.strm_chain.specs.Playing.{ChainPlay}
use Rattle.strm_chain.specs.Flowing.{IsFront, stage_at}
use Rattle.strm_chain.specs.Keeping.{worker_at, stages_of, input_of, IsJoined}
use Rattle.strm_chain.specs.Measuring.{most_of, most_in, taken_in_bytes}
use Rattle.strm_chain.proofs.MomentLemmas.{IsRunOf, count_is}
use Rattle.strm_chain.proofs.EndLemmas.{length-items, shorter, many_stages, bytes, got_bytes, first_front, behind_front}

-- what a stage makes of so many bytes, at most
abbrev grown : Stage → ℕ → ℕ
grown stage count = if is_twice stage then 2 * count else count

-- ## One stage

length-twice : (bs : List ℕ) → length (twice bs) ≡ 2 * length bs
length-twice [] = refl
length-twice (b ∷ bs) = omega (arith, length-twice bs)

length-sums : (total : ℕ) (bs : List ℕ) → length (sums total bs) ≡ length bs
length-sums total [] = refl
length-sums total (b ∷ bs) = ap suc (length-sums ((total + b) % 256) bs)

filter_less : (f : ℕ → Bool) (bs : List ℕ) → length (filter f bs) ≤ length bs
filter_less f [] = omega arith
filter_less f (b ∷ bs) =
    cond_both (f b) (b ∷ filter f bs) (filter f bs) (λ xs. length xs ≤ suc (length bs))
    (λ e. omega (arith, filter_less f bs)) (λ e. omega (arith, filter_less f bs))

take_less : (n : ℕ) (bs : List ℕ) → length (take n bs) ≤ length bs
take_less zero bs = omega arith
take_less (suc n) [] = omega arith
take_less (suc n) (b ∷ bs) = omega (arith, take_less n bs)

of_grown : (stage : Stage) (bs : List ℕ) → length (of stage bs) ≤ grown stage (length bs)
of_grown stages.Copy bs = omega arith
of_grown (stages.Add k) bs = omega (arith, length-map bs (λ b. (b + k) % 256))
of_grown (stages.Without k) bs = filter_less (λ b. not (b == k)) bs
of_grown stages.Twice bs = omega (arith, length-twice bs)
of_grown stages.Sum bs = omega (arith, length-sums 0 bs)
of_grown (stages.First n) bs = take_less n bs

-- ## Stages

by_twice : (b : Bool) (m n : ℕ) → m ≤ n → (if b then 2 * m else m) ≤ (if b then 2 * n else n)
by_twice true m n l = omega (arith, l)
by_twice false m n l = l

grown_le : (stage : Stage) (m n : ℕ) → m ≤ n → grown stage m ≤ grown stage n
grown_le stage m n l = by_twice (is_twice stage) m n l

up_twice : (b : Bool) (m : ℕ) → m ≤ (if b then 2 * m else m)
up_twice true m = omega arith
up_twice false m = omega arith

most_up : (ss : List Stage) (c : ℕ) → c ≤ most_of ss c
most_up [] c = omega arith
most_up (s ∷ ss) c = omega (arith, up_twice (is_twice s) c, most_up ss (grown s c))

most_front : (i : ℕ) (ss : List Stage) (c : ℕ) → most_of (take i ss) c ≤ most_of ss c
most_front zero ss c = most_up ss c
most_front (suc i) [] c = omega arith
most_front (suc i) (s ∷ ss) c = most_front i ss (grown s c)

most-push : (ss : List Stage) (stage : Stage) (c : ℕ) → most_of (ss ++ stage ∷ []) c ≡ grown stage (most_of ss c)
most-push [] stage c = refl
most-push (s ∷ ss) stage c = most-push ss stage (grown s c)

most-next : (ss : List Stage) (i c : ℕ) → i < length ss → most_of (take (i + 1) ss) c ≡ grown (stage_at ss i) (most_of (take i ss) c)
most-next ss i c l = ap (λ s. most_of s c) (take_more ss i Copy l) ∙ most-push (take i ss) (stage_at ss i) c

-- ## A chain

front_less : (front whole : List ℕ) → IsFront front whole → length front ≤ length whole
front_less front whole e = omega (arith, ap length e, take_less (length front) whole)

module _ (p : ChainPlay) (ws : List Worker) (some : 2 ≤ length ws) (j : IsJoined p ws) where
  abbrev carried : ℕ → List ℕ
  carried i = bytes p ws some j i

  first_few : length (carried 0) ≤ length (input_of ws)
  first_few = front_less (carried 0) (input_of ws) (first_front p ws some j)

  carried_few : (i : ℕ) → i + 1 < length ws → length (carried i) ≤ most_of (take i (stages_of ws)) (length (input_of ws))
  carried_few zero l = first_few
  carried_few (suc i) l =
      let c = length (input_of ws) in
      let stage = stage_at (stages_of ws) i in
      let e : i + 1 ≡ suc i = omega arith in
      let here = carried_few i (omega (arith, l)) in
      let front : length (carried (i + 1)) ≤ length (of stage (carried i)) = front_less (carried (i + 1)) (of stage (carried i)) (behind_front p ws some j i (omega (arith, l))) in
      let next : most_of (take (i + 1) (stages_of ws)) c ≡ grown stage (most_of (take i (stages_of ws)) c) = most-next (stages_of ws) i c (omega (arith, l, many_stages ws some)) in
      let grows : grown stage (length (carried i)) ≤ grown stage (most_of (take i (stages_of ws)) c) = grown_le stage (length (carried i)) (most_of (take i (stages_of ws)) c) here in
      subst (λ k. length (carried k) ≤ most_of (take k (stages_of ws)) c) e
      (omega (arith, front, of_grown stage (carried i), grows, next))

  module _ (run : IsRunOf p) where
    pub received_few : (i : ℕ) → i + 1 < length ws → received i p.state ≤ most_in ws
    received_few i l =
        let long : received i p.state ≡ length (carried i) = sym (count_is p i run) ∙ ap length (got_bytes p ws some j i l) ∙ length-items (carried i) in
        omega (arith, long, carried_few i l, most_front i (stages_of ws) (length (input_of ws)))

    pub taken_few : (i : ℕ) → i + 1 < length ws → taken_in_bytes p.state i ≤ most_in ws
    taken_few i l = omega (arith, received_few i l)

    -- what a guest has handed over was received
    pub sent_few : (g : ℕ) → g + 1 < length ws → (worker_at ws g).sent ≤ most_in ws
    sent_few g l =
        let w = worker_at ws g in
        let h = (j.joins g l).writes.sends in
        let n = w.sent + moved_of (stream_at p.state g).writer.operation in
        let long : received g p.state ≡ n = sym (count_is p g run) ∙ ap length h.front ∙ length-items (take n w.made) ∙ shorter n w.made h.within in
        omega (arith, long, received_few g l)
