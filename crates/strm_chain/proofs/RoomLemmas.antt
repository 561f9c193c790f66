-- How many steps a chain makes, at most.
use Rattle.std.proofs.Common.{◌≡◌, ℕ, zero, suc, ◌+◌, ◌*◌, ◌<◌, ◌≤◌, Bool, true, false, cond, List, [], ◌∷◌, ◌++◌, length, refl, ap, ◌∙◌, ltb-false, arith}
use Rattle.std.specs.Prelude.{Result, Ok, Err, IfOk, Some, None, count_by, nat_lt, if◌then◌else◌}
use Rattle.std.proofs.Math.Nat.{mul-le-mul_right}
use Rattle.std.proofs.lemmas.List.{length_push, length-append, length-replicate}
use Rattle.std.proofs.lemmas.List.Sums.{sum_by-cons}
use Rattle.strm_machine.specs.State.{State}
use Rattle.strm_machine.specs.declared.steps.Step.{Step}
use Rattle.strm_machine.specs.declared.steps.Step.TheVariants as steps
use Rattle.strm_machine.specs.declared.replies.Reply.{Reply}
use Rattle.strm_chain.specs.declared.stages.Stage.{Stage}
use Rattle.strm_chain.specs.declared.workers.Worker.{Worker}
use Rattle.strm_chain.specs.declared.workers.Doing.{Doing}
use Rattle.strm_chain.specs.declared.workers.Doing.TheVariants.{Nothing, Reading, Writing, Ended}
use Rattle.strm_chain.specs.declared.workers.ChainTurn.{ChainTurn}
use Rattle.strm_chain.specs.declared.faults.ChainError.{ChainError}
use Rattle.strm_chain.specs.declared.faults.ChainError.TheVariants.{TooManyStages, TooManyTwice, TooLong}
use Rattle.strm_chain.specs.Faults.{is_twice, fault_of}
use Rattle.strm_chain.specs.Playing.{ChainPlay, Adds, HasRoomForSteps, bytes_type}
use Rattle.strm_chain.specs.Turned.{Turned, Rests, Waits, ReadOpens, ReadServes, ReadSettles, WriteOpens, WriteServes, WriteSettles, Ends}
use Rattle.strm_chain.specs.Running.{guests_made, streams_made}
use Rattle.strm_chain.specs.Keeping.{ChainState, BeginsChain, worker_at, input_of}
use Rattle.strm_chain.specs.Making.{AreMade}
use Rattle.strm_chain.specs.Measuring.{most_of, most_in, rank, unclosed, to_do_of, to_do_to, to_do}

-- ## A turn

one_longer : (p q : ChainPlay) (step : Step) (reply : Reply) → Adds p q step reply → length q.steps ≡ length p.steps + 1
one_longer p q step reply a = ap length a.steps_are ∙ length_push p.steps step

-- behind a step there is room for one less
pub room_behind : (p q : ChainPlay) (step : Step) (reply : Reply) → Adds p q step reply → HasRoomForSteps 2 p → HasRoomForSteps 1 q
room_behind p q step reply a room = omega (arith, room, one_longer p q step reply a)

by_one : (p q : ChainPlay) (step : Step) (reply : Reply) → Adds p q step reply → length q.steps ≤ length p.steps + 2
by_one p q step reply a = omega (arith, one_longer p q step reply a)

by_two : (p mid q : ChainPlay) (step other : Step) (reply answer : Reply) → Adds p mid step reply → Adds mid q other answer → length q.steps ≤ length p.steps + 2
by_two p mid q step other reply answer a b = omega (arith, one_longer p mid step reply a, one_longer mid q other answer b)

pub turned_short : (g chunk : ℕ) (w w' : Worker) (p q : ChainPlay) (turn : ChainTurn) → Turned g chunk w p turn w' q → length q.steps ≤ length p.steps + 2
turned_short g chunk w w' p q turn (Rests t e is same) = omega (arith, ap (λ (x : ChainPlay). length x.steps) same)
turned_short g chunk w w' p q turn (Waits t is x) = by_one p q _ _ x.hears
turned_short g chunk w w' p q turn (ReadOpens t x is) = by_one p q _ _ x.adds
turned_short g chunk w w' p q turn (ReadServes mid code t x y) = by_two p mid q _ _ _ _ x.adds y.dumps
turned_short g chunk w w' p q turn (ReadSettles mid code t x y) = by_two p mid q _ _ _ _ x.adds y.dumps
turned_short g chunk w w' p q turn (WriteOpens t x is) = by_two p x.mid q _ _ _ _ x.pokes.adds x.adds
turned_short g chunk w w' p q turn (WriteServes code t x h) = by_two p x.mid q _ _ _ _ x.pokes.adds x.adds
turned_short g chunk w w' p q turn (WriteSettles code t x h) = by_one p q _ _ x.adds
turned_short g chunk w w' p q turn (Ends t x) = by_one p q _ _ x.adds

-- ## The making

many_streams : (s : ℕ) → length (streams_made s) ≡ s
unfolding streams_made
many_streams zero = refl
many_streams (suc s) = omega (arith, many_streams s, length_push (streams_made s) (steps.Between s (s + 1) bytes_type))

many_made : (guests streams : ℕ) → length (guests_made guests ++ streams_made streams) ≡ guests + streams
many_made guests streams =
    length-append (guests_made guests) (streams_made streams)
    ∙ ap (λ n. n + length (streams_made streams)) (length-replicate guests (steps.Guest 8192))
    ∙ ap (λ n. guests + n) (many_streams streams)

pub made_room : (guests streams more : ℕ) (p : ChainPlay) → AreMade guests streams p → guests + streams + more ≤ 4294967295 → HasRoomForSteps more p
made_room guests streams more p made l = omega (arith, l, ap length made.steps_are ∙ many_made guests streams)

-- ## What two stages that double make of so many bytes

count_cons : (s : Stage) (ss : List Stage) → count_by is_twice (s ∷ ss) ≡ cond (is_twice s) 1 0 + count_by is_twice ss
count_cons s ss = sum_by-cons (λ x. cond (is_twice x) 1 0) s ss

abbrev AtMost : ℕ → ℕ → List Stage → Type 0
AtMost twos times ss = (c : ℕ) → count_by is_twice ss ≤ twos → most_of ss c ≤ times * c

none_by : (b : Bool) (ss : List Stage) (c : ℕ) → AtMost 0 1 ss → cond b 1 0 + count_by is_twice ss ≤ 0 → most_of ss (if b then 2 * c else c) ≤ 1 * c
none_by true ss c h l = absurd (omega (arith, l))
none_by false ss c h l = h c (omega (arith, l))

at_none : (ss : List Stage) → AtMost 0 1 ss
at_none [] c l = omega arith
at_none (s ∷ ss) c l = none_by (is_twice s) ss c (at_none ss) (omega (arith, l, count_cons s ss))

one_by : (b : Bool) (ss : List Stage) (c : ℕ) → AtMost 1 2 ss → cond b 1 0 + count_by is_twice ss ≤ 1 → most_of ss (if b then 2 * c else c) ≤ 2 * c
one_by true ss c h l = omega (arith, at_none ss (2 * c) (omega (arith, l)))
one_by false ss c h l = h c (omega (arith, l))

at_one : (ss : List Stage) → AtMost 1 2 ss
at_one [] c l = omega arith
at_one (s ∷ ss) c l = one_by (is_twice s) ss c (at_one ss) (omega (arith, l, count_cons s ss))

two_by : (b : Bool) (ss : List Stage) (c : ℕ) → AtMost 2 4 ss → cond b 1 0 + count_by is_twice ss ≤ 2 → most_of ss (if b then 2 * c else c) ≤ 4 * c
two_by true ss c h l = omega (arith, at_one ss (2 * c) (omega (arith, l)))
two_by false ss c h l = h c (omega (arith, l))

at_two : (ss : List Stage) → AtMost 2 4 ss
at_two [] c l = omega arith
at_two (s ∷ ss) c l = two_by (is_twice s) ss c (at_two ss) (omega (arith, l, count_cons s ss))

-- ## Stages and an input without a fault

tests_of : (a b c : Bool) (x y z : ChainError) → (if a then Some x else (if b then Some y else (if c then Some z else None))) ≡ None → (a ≡ false) × (b ≡ false) × (c ≡ false)
tests_of true b c x y z e = cc
tests_of false true c x y z e = cc
tests_of false false true x y z e = cc
tests_of false false false x y z e = (refl, refl, refl)

module _ (stages : List Stage) (input : ℕ) (none : fault_of stages input ≡ None) where
  tests : (nat_lt 8 (length stages) ≡ false) × (nat_lt 2 (count_by is_twice stages) ≡ false) × (nat_lt 65536 input ≡ false)
  tests = tests_of (nat_lt 8 (length stages)) (nat_lt 2 (count_by is_twice stages)) (nat_lt 65536 input) TooManyStages TooManyTwice TooLong none

  pub few_stages : length stages ≤ 8
  few_stages = ltb-false 8 (length stages) tests.0

  few_twice : count_by is_twice stages ≤ 2
  few_twice = ltb-false 2 (count_by is_twice stages) tests.1

  few_bytes : input ≤ 65536
  few_bytes = ltb-false 65536 input tests.2

  -- the most steps of a run to the end, and one round's more
  pub few_steps : 800 * most_of stages input + 839 ≤ 4294967295
  few_steps = omega (arith, at_two stages input few_twice, few_bytes)

-- ## What a chain has to do at first

rank_few : (d : Doing) → rank d ≤ 2
rank_few Ended = omega arith
rank_few Reading = omega arith
rank_few Writing = omega arith
rank_few Nothing = omega arith

unclosed_few : (b : Bool) → unclosed b ≤ 2
unclosed_few true = omega arith
unclosed_few false = omega arith

to_do_few : (most : ℕ) (state : State) (g : ℕ) (w : Worker) → to_do_of most state g w ≤ 4 * most + 4
to_do_few most state g w = omega (arith, rank_few w.doing, unclosed_few w.closed)

times_more : (n m a b : ℕ) → a ≤ n * m → b ≤ m → a + b ≤ suc n * m
times_more n m a b h l = omega (arith, h, l)

all_few : (most : ℕ) (state : State) (ws : List Worker) (n : ℕ) → to_do_to most state ws n ≤ n * (4 * most + 4)
unfolding to_do_to
all_few most state ws zero = omega arith
all_few most state ws (suc n) = times_more n (4 * most + 4) _ _ (all_few most state ws n) (to_do_few most state n (worker_at ws n))

ten_few : (most : ℕ) (state : State) (ws : List Worker) (n : ℕ) → n ≤ 10 → to_do_to most state ws n ≤ 40 * most + 40
ten_few most state ws n l = omega (arith, all_few most state ws n, mul-le-mul_right (4 * most + 4) l)

-- the steps that made a chain, and those of its rounds to the end
pub begins_few : (stages : List Stage) (input : List ℕ) (chunk : ℕ) (a : ChainState) → BeginsChain stages input chunk a → fault_of stages (length input) ≡ None → length a.play.steps + 20 * to_do a.play.state a.workers ≤ 800 * most_of stages (length input) + 819
begins_few stages input chunk a x none =
    let few : length stages ≤ 8 = few_stages stages (length input) none in
    let made : length a.play.steps ≡ (length stages + 2) + (length stages + 1) = ap length x.steps_are ∙ many_made (length stages + 2) (length stages + 1) in
    let most : most_in a.workers ≡ most_of stages (length input) = ap (λ s. most_of s (length (input_of a.workers))) x.stages_are ∙ ap (λ i. most_of stages (length i)) x.input_is in
    let left : to_do a.play.state a.workers ≤ 40 * most_in a.workers + 40 = ten_few (most_in a.workers) a.play.state a.workers (length a.workers) (omega (arith, few, x.many)) in
    omega (arith, few, made, most, left)

-- ## A round

-- the steps of a round are paid for by what it leaves less to do
pub spent_more : (limit old new before behind : ℕ) → old + 20 * before ≤ limit → new ≤ old + 20 → behind < before → new + 20 * behind ≤ limit
spent_more limit old new before behind h short less = omega (arith, h, short, less)

-- ## The end

module _ {T E : Type 0} (steps : T → List Step) where
  pub few_ok : (r : Result T E) (made : List Step) (limit : ℕ) → IfOk r (λ e. steps e ≡ made) → length made ≤ limit → IfOk r (λ e. length (steps e) ≤ limit)
  few_ok (Ok e) made limit same l = omega (arith, ap length same, l)
  few_ok (Err e) made limit same l = tt
