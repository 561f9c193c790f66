-- Turns, put together.
use Rattle.std.proofs.Common.{◌≡◌, ℕ, ◌+◌, ◌-◌, ◌%◌, ◌<◌, length, get_or, List, [], ◌∷◌, ◌++◌, refl, sym, ap, ◌∙◌, subst}
use Rattle.std.specs.Prelude.{map, take}
use Rattle.std.proofs.lemmas.List.{take_more, map_push}
use Rattle.strm_machine.specs.declared.steps.Step.{Step}
use Rattle.strm_machine.specs.declared.replies.Reply.{Reply}
use Rattle.strm_machine.specs.Plays.{play, Ends}
use Rattle.strm_laws.specs.Starts.{run_start}
use Rattle.strm_chain.specs.declared.workers.ChainTurn.{ChainTurn}
use Rattle.strm_chain.specs.Playing.{ChainPlay}
use Rattle.strm_chain.specs.Turning.{Turns}
use Rattle.strm_chain.specs.Running.{making_of, AreTurns, AreSomeTurns, IsChainRun}

module _ (sink chunk : ℕ) where
  -- one turn more
  pub turns-push : (whos : List ℕ) (who : ℕ) (turn : ChainTurn) (a b c : ChainPlay) → AreTurns sink chunk whos a b → Turns sink chunk who turn b c → AreTurns sink chunk (whos ++ who ∷ []) a c
  turns-push [] who turn a b c same t = (turn, c, subst (λ x. Turns sink chunk who turn x c) same t, refl)
  turns-push (w ∷ ws) who turn a b c more t = (more.0, more.1, more.2, turns-push ws who turn more.1 b c more.3 t)

  -- of a schedule
  turns_at : (f : ℕ → ℕ) (schedule : List ℕ) (i d : ℕ) (turn : ChainTurn) (a b c : ChainPlay) → i < length schedule → AreTurns sink chunk (map f (take i schedule)) a b → Turns sink chunk (f (get_or schedule i d)) turn b c → AreTurns sink chunk (map f (take (i + 1) schedule)) a c
  turns_at f schedule i d turn a b c l more t =
      subst (λ whos. AreTurns sink chunk whos a c) (sym (ap (map f) (take_more schedule i d l) ∙ map_push f (take i schedule) (get_or schedule i d)))
      (turns-push (map f (take i schedule)) (f (get_or schedule i d)) turn a b c more t)

  turns-join : (xs ys : List ℕ) (a b c : ChainPlay) → AreTurns sink chunk xs a b → AreTurns sink chunk ys b c → AreTurns sink chunk (xs ++ ys) a c
  turns-join [] ys a b c same t = subst (λ x. AreTurns sink chunk ys x c) same t
  turns-join (x ∷ xs) ys a b c more t = (more.0, more.1, more.2, turns-join xs ys more.1 b c more.3 t)

  pub some_none : (a : ChainPlay) → AreSomeTurns sink chunk a a
  some_none a = ([], refl)

-- turns of a chain that has as many guests, and the same chunk
turns_as : (sink sink' chunk chunk' who : ℕ) (turn : ChainTurn) (b c : ChainPlay) → sink' ≡ sink → chunk' ≡ chunk → Turns sink' chunk' who turn b c → Turns sink chunk who turn b c
turns_as sink sink' chunk chunk' who turn b c e f t =
    subst (λ k. Turns sink k who turn b c) f (subst (λ n. Turns n chunk' who turn b c) e t)

-- a guest is named by the remainder of a number of the schedule
module _ (chunk chunk' n m r : ℕ) (schedule : List ℕ) (i d : ℕ) (turn : ChainTurn) (a b c : ChainPlay) where
  pub turns_mod : i < length schedule → chunk' ≡ chunk → m ≡ n → r ≡ m → AreTurns (n - 1) chunk (map (λ s. s % n) (take i schedule)) a b → Turns (m - 1) chunk' (get_or schedule i d % r) turn b c → AreTurns (n - 1) chunk (map (λ s. s % n) (take (i + 1) schedule)) a c
  turns_mod l e k all more t =
      turns_at (n - 1) chunk (λ s. s % n) schedule i d turn a b c l more
      (turns_as (n - 1) (m - 1) chunk chunk' (get_or schedule i d % n) turn b c (ap (λ x. x - 1) k) e
      (subst (λ x. Turns (m - 1) chunk' (get_or schedule i d % x) turn b c) (all ∙ k) t))

-- some schedule
module _ (sink sink' chunk chunk' : ℕ) (a b c : ChainPlay) (e : sink' ≡ sink) (f : chunk' ≡ chunk) where
  pub some_more : (who : ℕ) (turn : ChainTurn) → AreSomeTurns sink chunk a b → Turns sink' chunk' who turn b c → AreSomeTurns sink chunk a c
  some_more who turn more t =
      (more.0 ++ who ∷ [], turns-push sink chunk more.0 who turn a b c more.1 (turns_as sink sink' chunk chunk' who turn b c e f t))

  pub some_join : AreSomeTurns sink chunk a b → AreSomeTurns sink' chunk' b c → AreSomeTurns sink chunk a c
  some_join s t =
      let u : AreTurns sink chunk t.0 b c = subst (λ k. AreTurns sink k t.0 b c) f (subst (λ n. AreTurns n chunk' t.0 b c) e t.1) in
      (s.0 ++ t.0, turns-join sink chunk s.0 t.0 a b c s.1 u)

-- what was made first, and then turns
module _ (n chunk : ℕ) (whos : List ℕ) (a b : ChainPlay) (steps : List Step) (told : List Reply) where
  pub run_of : a.steps ≡ making_of n → play [] run_start a.steps ≡ Ends a.replies a.state → AreTurns (n + 1) chunk whos a b → steps ≡ b.steps → told ≡ b.replies → play [] run_start steps ≡ Ends told b.state → IsChainRun n chunk whos steps told
  run_of made plays turns steps_are replies_are all = record {
    first = a;
    last = b;
    made = made;
    plays = plays;
    turns = turns;
    steps_are = steps_are;
    replies_are = replies_are;
    plays_all = all;
  }
