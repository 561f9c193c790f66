-- What the calls of a chain promise, from what each turn does.
use Rattle.std.proofs.Common.{◌≡◌, ℕ, ◌+◌, ◌-◌, ◌%◌, ◌<◌, ◌≤◌, Bool, true, false, List, [], ◌++◌, length, take, drop, refl, sym, ap, ◌∙◌, subst, inl, inr, arith}
use Rattle.std.specs.Prelude.{Result, Ok, Err, IfOk, OnOk, map, None}
use Rattle.std.proofs.Math.ListN.{get_or-map}
use Rattle.std.proofs.lemmas.Bool.{cases_eq}
use Rattle.std.proofs.lemmas.List.{ext_get_or, take-map, drop-map, length-map, take-append-le, take_all}
use Rattle.strm_machine.specs.Plays.{play, Ends}
use Rattle.strm_laws.specs.Starts.{run_start}
use Rattle.strm_machine.specs.State.{empty, memory_in}
use Rattle.strm_machine.specs.Moments.{received}
use Rattle.strm_machine.specs.declared.limits.Limits.{Limits}
use Rattle.strm_laws.specs.Conservation.{moments, state_after_steps}
use Rattle.strm_laws.specs.Laws.{AreSteps, Conserves}
use Rattle.strm_machine.specs.declared.steps.Step.{Step}
use Rattle.strm_machine.specs.declared.replies.Reply.{Reply}
use Rattle.strm_chain.specs.declared.stages.Stage.{Stage}
use Rattle.strm_chain.specs.declared.workers.Worker.{Worker}
use Rattle.strm_chain.specs.declared.stages.Stage.TheVariants.{Copy}
use Rattle.strm_chain.specs.declared.workers.ChainTurn.{ChainTurn}
use Rattle.strm_chain.specs.Stages.{composed}
use Rattle.strm_chain.specs.Playing.{ChainPlay, IsChainPlayed}
use Rattle.strm_chain.specs.Flowing.{got_on, Flows}
use Rattle.strm_chain.specs.Reporting.{is_told}
use Rattle.strm_chain.specs.Running.{guests_made, streams_made, AreTurns, AreSomeTurns, IsChainRun}
use Rattle.strm_chain.specs.Turned.{Turned}
use Rattle.strm_chain.specs.Making.{IsReady}
use Rattle.strm_chain.specs.Measuring.{IsStuck}
use Rattle.strm_chain.specs.Chains.{chain_of, TakesTurn, ComesTo}
use Rattle.strm_chain.specs.Keeping.{ChainState, new_worker, worker_at, sink_of, stages_of, input_of, IsJoined, IsGoing, IsGoingUnless, IsChain, BeginsChain, ChainGoesOn}
use Rattle.strm_chain.proofs.MomentLemmas.{played_run}
use Rattle.strm_chain.proofs.JoinedLemmas.{OneChanged, either}
use Rattle.strm_chain.proofs.TurnLemmas.{turn_joined}
use Rattle.strm_chain.proofs.PlayingLemmas.{follows_plays}
use Rattle.strm_chain.proofs.ToldLemmas.{even_of, turned_other, turned_own}
use Rattle.strm_chain.proofs.StandingLemmas.{stands}
use Rattle.strm_chain.proofs.OutcomeLemmas.{turned_turns, turned_stage, turned_source}
use Rattle.strm_chain.proofs.RoundLemmas.{AreAlike, turn_lowers, somebody_goes}
use Rattle.strm_chain.proofs.TurningLemmas.{run_of}
use Rattle.strm_chain.proofs.RoomLemmas.{turned_short}
use Rattle.strm_chain.proofs.EndLemmas.{plain_of, counts_are, output_is, flows, all_composed}

-- ## A turn

abbrev stage_of : Worker → Stage
stage_of w = w.work.stage

same_stages : (ws ws' : List Worker) (g : ℕ) → OneChanged g ws ws' → (worker_at ws' g).work.stage ≡ (worker_at ws g).work.stage → stages_of ws' ≡ stages_of ws
same_stages ws ws' g one e =
    let all : map stage_of ws' ≡ map stage_of ws =
    ext_get_or Copy (map stage_of ws') (map stage_of ws) (length-map ws' stage_of ∙ one.many ∙ sym (length-map ws stage_of))
    (λ i l. get_or-map stage_of ws' i (new_worker Copy) ∙ either (λ w w'. stage_of w' ≡ stage_of w) g ws ws' i one (λ w. refl) e ∙ sym (get_or-map stage_of ws i (new_worker Copy))) in
    sym (part ws') ∙ ap (λ xs. take (length ws' - 2) (drop 1 xs)) all ∙ ap (λ n. take (n - 2) (drop 1 (map stage_of ws))) one.many ∙ part ws
  where
    part : (xs : List Worker) → take (length xs - 2) (drop 1 (map stage_of xs)) ≡ map stage_of (take (length xs - 2) (drop 1 xs))
    part xs = ap (take (length xs - 2)) (drop-map stage_of 1 xs) ∙ take-map stage_of (length xs - 2) (drop 1 xs)

module _ {E : Type 0} (p q : ChainPlay) (ws ws' : List Worker) (g chunk : ℕ) (r : Result ChainTurn E) (within : (16 ≤ chunk) × (chunk ≤ 64)) (there : g < length ws) (one : OneChanged g ws ws') where
  abbrev IsTurned : Type 0
  IsTurned = IfOk r (λ turn. Turned g chunk (worker_at ws g) p turn (worker_at ws' g) q)

  -- the sink knows what it was told
  told_on : (turn : ChainTurn) → IsChainPlayed p → IsGoing p ws → Turned g chunk (worker_at ws g) p turn (worker_at ws' g) q → is_told (length ws' - 1) q.steps q.replies ≡ (sink_of ws').closed
  told_on turn a go y =
      let k = length ws - 1 in
      subst (λ n. is_told (n - 1) q.steps q.replies ≡ (worker_at ws' (n - 1)).closed) (sym one.many)
      (elim (cases_eq g k) [
        | inl e ↦ subst (λ n. is_told n q.steps q.replies ≡ (worker_at ws' n).closed) e
            (turned_own g chunk (worker_at ws g) (worker_at ws' g) p q turn (even_of p a) (ap (λ n. (worker_at ws n).write) e ∙ go.joined.sink.write)
            (subst (λ n. is_told n p.steps p.replies ≡ (worker_at ws n).closed) (sym e) go.told) y)
        | inr ne ↦ turned_other k g chunk (worker_at ws g) (worker_at ws' g) p q turn (even_of p a) ne y ∙ go.told
            ∙ sym (ap (λ (w : Worker). w.closed) (one.others k (λ e. ne (sym e))))
      ])

  same_input : IsJoined p ws → (turn : ChainTurn) → Turned g chunk (worker_at ws g) p turn (worker_at ws' g) q → input_of ws' ≡ input_of ws
  same_input j turn y =
      either (λ w w'. w.read ≡ None → w'.made ≡ w.made) g ws ws' 0 one (λ w none. refl)
      (λ none. turned_source g chunk (worker_at ws g) (worker_at ws' g) p q turn none y) j.source.0

  module _ (a : IsChainPlayed p) (b : IsChainPlayed q) (go : IsGoing p ws) where
    joined_on : (turn : ChainTurn) → Turned g chunk (worker_at ws g) p turn (worker_at ws' g) q → IsJoined q ws'
    joined_on turn y = turn_joined p ws g chunk go.joined there (played_run p a) within.1 q ws' turn (played_run q b).are one y

    -- the chain is kept
    pub kept_ok : (2 ≤ length ws) × (length ws ≤ 10) → IsTurned → OnOk r (IsChain (chain_of q ws' chunk))
    kept_ok some t = by r t
      where
        by : (x : Result ChainTurn E) → IfOk x (λ turn. Turned g chunk (worker_at ws g) p turn (worker_at ws' g) q) → OnOk x (IsChain (chain_of q ws' chunk))
        by (Ok turn) y = record {
          chunk = within;
          some = subst (λ n. (2 ≤ n) × (n ≤ 10)) (sym one.many) some;
          going = record { joined = joined_on turn y; told = told_on turn a go y };
        }
        by (Err e) y = tt

    -- and the turn is one of it
    pub takes_ok : 2 ≤ length ws → IsTurned → IfOk r (λ turn. TakesTurn g turn (chain_of p ws chunk) (chain_of q ws' chunk))
    takes_ok some t = by r t
      where
        by : (x : Result ChainTurn E) → IfOk x (λ turn. Turned g chunk (worker_at ws g) p turn (worker_at ws' g) q) → IfOk x (λ turn. TakesTurn g turn (chain_of p ws chunk) (chain_of q ws' chunk))
        by (Ok turn) y =
            let stages = same_stages ws ws' g one (turned_stage g chunk (worker_at ws g) (worker_at ws' g) p q turn y) in
            let input = same_input go.joined turn y in
            record {
              turns = turned_turns (length ws - 1) g chunk (worker_at ws g) (worker_at ws' g) p q turn (omega (arith, within.0)) (stands p ws go g there) y;
              short = turned_short g chunk (worker_at ws g) (worker_at ws' g) p q turn y;
              goes_on = record { many = one.many; stages = stages; input = input; chunk = refl };
              runs = refl;
              lowers = turn_lowers p q ws ws' g chunk turn some there within.1 one (record { many = one.many; stages = stages; input = input })
                  go.joined (joined_on turn y) (played_run p a) (played_run q b) y;
            }
        by (Err e) y = tt

-- ## A chain

-- guests that were lent and put back
pub written_back : (n : ℕ) (new old : List Worker) → length new ≡ length old → n ≡ length old → take n (new ++ drop (length new) old) ≡ new
written_back n new old many e =
    take-append-le n new (drop (length new) old) (omega (arith, many, e)) ∙ take_all n new (omega (arith, many, e))

pub going_of : (failed : Bool) (p : ChainPlay) (ws : List Worker) → IsGoingUnless failed p ws → failed ≡ false → IsGoing p ws
going_of true p ws go e = cc
going_of false p ws go e = go

-- a chain that goes on, as the call that lent its guests has it, and behind it
abbrev flagged : Bool → ChainState → ChainState
flagged failed chain = record chain { failed = failed }

pub chain_lent : (chain : ChainState) → IsChain chain → chain.failed ≡ false → IsChain (chain_of chain.play chain.workers chain.chunk)
chain_lent chain x runs = record { chunk = x.chunk; some = x.some; going = going_of chain.failed chain.play chain.workers x.going runs }

module _ {q : ChainPlay} {ws' back : List Worker} {chunk : ℕ} {failed : Bool} (runs : failed ≡ false) (same : back ≡ ws') where
  pub kept_back : IsChain (chain_of q ws' chunk) → IsChain (flagged failed (chain_of q back chunk))
  kept_back x =
      subst (λ f. IsChain (flagged f (chain_of q back chunk))) (sym runs) (subst (λ ws. IsChain (chain_of q ws chunk)) (sym same) x)

  pub turn_back : {who : ℕ} {turn : ChainTurn} {old : ChainState} {p : ChainPlay} {ws : List Worker} → flagged failed (chain_of p ws chunk) ≡ old → TakesTurn who turn (chain_of p ws chunk) (chain_of q ws' chunk) → TakesTurn who turn old (flagged failed (chain_of q back chunk))
  turn_back {who} {turn} {old} {p} {ws} view t =
      subst (λ (o : ChainState). TakesTurn who turn o (flagged failed (chain_of q back chunk))) view
      (subst (λ f. TakesTurn who turn (flagged f (chain_of p ws chunk)) (flagged f (chain_of q back chunk))) (sym runs)
      (subst (λ b. TakesTurn who turn (chain_of p ws chunk) (chain_of q b chunk)) (sym same) t))

-- not all of its guests are stuck where it goes on
pub goes_of : (chain : ChainState) → IsChain chain → IsChainPlayed chain.play → chain.failed ≡ false → is_told (length chain.workers - 1) chain.play.steps chain.play.replies ≡ false → ((g : ℕ) → g < length chain.workers → IsStuck g (worker_at chain.workers g) chain.play.state) → ⊥
goes_of c x played runs untold =
    somebody_goes c.play c.workers played (going_of c.failed c.play c.workers x.going runs) x.some.0 untold

pub alike_of : (a b : ChainState) → ChainGoesOn a b → AreAlike a.workers b.workers
alike_of a b x = record { many = x.many; stages = x.stages; input = x.input }

pub goes_nowhere : (a : ChainState) → ChainGoesOn a a
goes_nowhere a = record { many = refl; stages = refl; input = refl; chunk = refl }

pub goes_further : (a b c : ChainState) → ChainGoesOn a b → ChainGoesOn b c → ChainGoesOn a c
goes_further a b c x y = record {
  many = y.many ∙ x.many;
  stages = y.stages ∙ x.stages;
  input = y.input ∙ x.input;
  chunk = y.chunk ∙ x.chunk;
}

-- the sink of a chain of these stages
sink_number : (stages : List Stage) (input : List ℕ) (chunk : ℕ) (a b : ChainState) → BeginsChain stages input chunk a → ChainGoesOn a b → length b.workers - 1 ≡ length stages + 1
sink_number stages input chunk a b x y = omega (arith, x.many, y.many)

-- what flowed, of the stages and the input that it began with
pub flows_begun : (stages : List Stage) (input : List ℕ) (chunk : ℕ) (a b : ChainState) (out : List ℕ) (steps : List Step) → BeginsChain stages input chunk a → ChainGoesOn a b → Flows (stages_of b.workers) (input_of b.workers) out steps → Flows stages input out steps
flows_begun stages input chunk a b out steps x y f =
    subst (λ s. Flows s input out steps) (y.stages ∙ x.stages_are) (subst (λ i. Flows (stages_of b.workers) i out steps) (y.input ∙ x.input_is) f)

pub composed_begun : (stages : List Stage) (input : List ℕ) (chunk : ℕ) (a b : ChainState) (out : List ℕ) → BeginsChain stages input chunk a → ChainGoesOn a b → out ≡ composed (stages_of b.workers) (input_of b.workers) → out ≡ composed stages input
composed_begun stages input chunk a b out x y e =
    e ∙ ap (λ s. composed s (input_of b.workers)) (y.stages ∙ x.stages_are) ∙ ap (composed stages) (y.input ∙ x.input_is)

-- the chain that was made
pub begins_ready : (stages : List Stage) (input : List ℕ) (chunk : ℕ) (p : ChainPlay) (ws : List Worker) → IsReady stages input p ws → IsChainPlayed p → BeginsChain stages input chunk (record { play = p; workers = ws; chunk = chunk; failed = false })
begins_ready stages input chunk p ws r played = record {
  many = r.many;
  stages_are = r.stages_are;
  input_is = ap (λ (w : Worker). w.made) r.source.1;
  chunk_is = refl;
  steps_are = r.made.steps_are ∙ ap (λ n. guests_made n ++ streams_made (length stages + 1)) r.many;
  plays = follows_plays p.steps p.replies p.state played;
  runs = refl;
}

-- ## The end

module _ (p : ChainPlay) (ws : List Worker) (some : (2 ≤ length ws) × (length ws ≤ 10)) (j : IsJoined p ws) (played : IsChainPlayed p)
    (law : (tag : ℕ) (limits : Limits) (run : List Step) (k : ℕ) → AreSteps run → Conserves k (moments (empty tag limits) run) (state_after_steps (empty tag limits) run))
    (stream : ℕ) (sink : Worker) (out : List ℕ) (last_one : stream ≡ length ws - 2) (is : sink ≡ sink_of ws)
    (e : out ≡ sink.made ++ take (received stream p.state - length sink.made) (memory_in p.state.guests (stream + 1))) where
  out_is : out ≡ plain_of (got_on p.steps (length ws - 2))
  out_is =
      output_is p ws some.0 j out (counts_are p (length ws - 2) (played_run p played) law)
      (subst (λ n. out ≡ (sink_of ws).made ++ take (received n p.state - length (sink_of ws).made) (memory_in p.state.guests (n + 1))) last_one
      (subst (λ (s : Worker). out ≡ s.made ++ take (received stream p.state - length s.made) (memory_in p.state.guests (stream + 1))) is e))

  pub end_flows : Flows (stages_of ws) (input_of ws) out p.steps
  end_flows = flows p ws some.0 j out out_is

  pub end_composed : sink.closed ≡ true → out ≡ composed (stages_of ws) (input_of ws)
  end_composed closed = all_composed p ws some.0 j out out_is (ap (λ (s : Worker). s.closed) (sym is) ∙ closed)

-- ## A chain that came to an end

module _ {T E : Type 0} (steps : T → List Step) (replies : T → List Reply) (out : T → List ℕ) (ended : T → Bool)
    (stages : List Stage) (input : List ℕ) (chunk : ℕ) (a b : ChainState) (r : Result T E) (begins : BeginsChain stages input chunk a) where
  -- what it has come to
  abbrev pub HasCome : Result T E → Type 0
  HasCome x = IfOk x (λ e. ComesTo b.play b.workers (out e) (ended e) (steps e) (replies e))

  run_by : (whos : List ℕ) → AreTurns (length a.workers - 1) a.chunk whos a.play b.play → (x : Result T E) → HasCome x → IfOk x (λ e. IsChainRun (length stages) chunk whos (steps e) (replies e))
  run_by whos t (Ok e) p =
      run_of (length stages) chunk whos a.play b.play (steps e) (replies e) begins.steps_are begins.plays
      (subst (λ n. AreTurns n chunk whos a.play b.play) (omega (arith, begins.many)) (subst (λ n. AreTurns (length a.workers - 1) n whos a.play b.play) begins.chunk_is t))
      p.steps_are p.replies_are p.plays
  run_by whos t (Err e) p = tt

  module _ (schedule : List ℕ) where
    pub run_ok : AreTurns (length a.workers - 1) a.chunk (map (λ s. s % length a.workers) schedule) a.play b.play → HasCome r → IfOk r (λ e. IsChainRun (length stages) chunk (map (λ s. s % (length stages + 2)) schedule) (steps e) (replies e))
    run_ok turns p =
        run_by (map (λ s. s % (length stages + 2)) schedule)
        (subst (λ n. AreTurns (length a.workers - 1) a.chunk (map (λ s. s % n) schedule) a.play b.play) begins.many turns) r p

  -- by some schedule
  pub some_run_ok : AreSomeTurns (length a.workers - 1) a.chunk a.play b.play → HasCome r → IfOk r (λ e. (whos : List ℕ) × IsChainRun (length stages) chunk whos (steps e) (replies e))
  some_run_ok turns p = by r (run_by turns.0 turns.1 r p)
    where
      by : (x : Result T E) → IfOk x (λ e. IsChainRun (length stages) chunk turns.0 (steps e) (replies e)) → IfOk x (λ e. (whos : List ℕ) × IsChainRun (length stages) chunk whos (steps e) (replies e))
      by (Ok e) y = (turns.0, y)
      by (Err e) y = tt

  -- of the stages and the input that it began with
  module _ (goes : ChainGoesOn a b) (came : HasCome r) where
    -- it tells whether the sink was told
    pub ended_ok : IfOk r (λ e. ended e ≡ is_told (length stages + 1) (steps e) (replies e))
    ended_ok = by r came
      where
        by : (x : Result T E) → HasCome x → IfOk x (λ e. ended e ≡ is_told (length stages + 1) (steps e) (replies e))
        by (Ok e) p = p.ended ∙ ap (λ n. is_told n (steps e) (replies e)) (sink_number stages input chunk a b begins goes)
        by (Err e) p = tt

    pub flows_ok : IfOk r (λ e. Flows stages input (out e) (steps e))
    flows_ok = by r came
      where
        by : (x : Result T E) → HasCome x → IfOk x (λ e. Flows stages input (out e) (steps e))
        by (Ok e) p = flows_begun stages input chunk a b (out e) (steps e) begins goes p.flows
        by (Err e) p = tt

    pub composed_ok : IfOk r (λ e. ended e ≡ true → out e ≡ composed stages input)
    composed_ok = by r came
      where
        by : (x : Result T E) → HasCome x → IfOk x (λ e. ended e ≡ true → out e ≡ composed stages input)
        by (Ok e) p = λ d. composed_begun stages input chunk a b (out e) begins goes (p.whole d)
        by (Err e) p = tt

    -- and where the sink was told
    module _ (told : is_told (length b.workers - 1) b.play.steps b.play.replies ≡ true) where
      told_at : (e : T) → ComesTo b.play b.workers (out e) (ended e) (steps e) (replies e) → is_told (length b.workers - 1) (steps e) (replies e) ≡ true
      told_at e p = ap (λ xs. is_told (length b.workers - 1) xs (replies e)) p.steps_are ∙ ap (is_told (length b.workers - 1) b.play.steps) p.replies_are ∙ told

      pub told_ok : IfOk r (λ e. is_told (length stages + 1) (steps e) (replies e) ≡ true)
      told_ok = by r came
        where
          by : (x : Result T E) → HasCome x → IfOk x (λ e. is_told (length stages + 1) (steps e) (replies e) ≡ true)
          by (Ok e) p = ap (λ n. is_told n (steps e) (replies e)) (sym (sink_number stages input chunk a b begins goes)) ∙ told_at e p
          by (Err e) p = tt

      pub all_ended_ok : IfOk r (λ e. ended e ≡ true)
      all_ended_ok = by r came
        where
          by : (x : Result T E) → HasCome x → IfOk x (λ e. ended e ≡ true)
          by (Ok e) p = p.ended ∙ told_at e p
          by (Err e) p = tt

      pub all_ok : IfOk r (λ e. out e ≡ composed stages input)
      all_ok = by r came
        where
          by : (x : Result T E) → HasCome x → IfOk x (λ e. out e ≡ composed stages input)
          by (Ok e) p = composed_begun stages input chunk a b (out e) begins goes (p.whole (p.ended ∙ told_at e p))
          by (Err e) p = tt
