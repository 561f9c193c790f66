-- What a joined chain has carried, and what it has put out once it has ended.
use Rattle.std.proofs.Common.{◌≡◌, ◌≢◌, ℕ, zero, suc, ◌+◌, ◌-◌, ◌<◌, ◌≤◌, true, false, pos, List, [], ◌∷◌, ◌++◌, length, take, drop, Option, Some, None, refl, sym, ap, ◌∙◌, subst, inl, inr, arith}
use Rattle.std.specs.Prelude.{◌⊎◌}
use Rattle.std.proofs.Math.ListN.{get_or-map}
use Rattle.std.proofs.lemmas.List.{take_all, take_more, get_or-drop, get_or-take, length-map, length-append, length-drop}
use Rattle.strm_memory.specs.Bytes.{bytes_at}
use Rattle.strm_machine.specs.State.{empty, memory_in, stream_at, is_gone}
use Rattle.strm_machine.specs.Moments.{moved_of, received}
use Rattle.strm_machine.specs.declared.streams.Operation.{Operation}
use Rattle.strm_machine.specs.declared.streams.Owner.{Owner}
use Rattle.strm_machine.specs.declared.streams.Owner.TheVariants.{Held}
use Rattle.strm_machine.specs.declared.steps.Step.{Step}
use Rattle.strm_laws.specs.Conservation.{moments, state_after_steps}
use Rattle.strm_laws.specs.Laws.{AreSteps, Conserves}
use Rattle.strm_machine.specs.declared.limits.Limits.{Limits}
use Rattle.strm_chain.specs.declared.stages.Stage.{Stage}
use Rattle.strm_chain.specs.declared.stages.Stage.TheVariants.{Copy}
use Rattle.strm_chain.specs.declared.workers.Worker.{Worker}
use Rattle.strm_chain.specs.declared.workers.Doing.{Doing}
use Rattle.strm_chain.specs.declared.workers.Doing.TheVariants.{Nothing, Reading, Writing, Ended}
use Rattle.strm_chain.specs.Stages.{of, composed, work_begun}
use Rattle.strm_chain.specs.Playing.{ChainPlay}
use Rattle.strm_chain.specs.Flowing.{as_items, got_on, IsFront, stage_at, Flows}
use Rattle.strm_chain.specs.Linking.{Sends, Takes, HoldsIf}
use Rattle.strm_chain.specs.Keeping.{new_worker, worker_at, sink_of, stages_of, input_of, Items, IsJoined}
use Rattle.strm_chain.proofs.StageLemmas.{of_is_done}
use Rattle.strm_chain.proofs.LinkLemmas.{as_items-append}
use Rattle.strm_chain.proofs.PrefixLemmas.{passes, passes_all}
use Rattle.strm_chain.proofs.MomentLemmas.{IsRunOf}
use Rattle.strm_chain.proofs.OwnLemmas.{front_itself}

-- ## Items as bytes again

-- the bytes that items are
pub plain_of : Items → List ℕ
plain_of [] = []
plain_of (Some (pos b ∷ []) ∷ more) = b ∷ plain_of more
plain_of (_ ∷ more) = plain_of more

plain-items : (bytes : List ℕ) → plain_of (as_items bytes) ≡ bytes
unfolding plain_of
plain-items [] = refl
plain-items (b ∷ bytes) = ap (λ more. b ∷ more) (plain-items bytes)

pub length-items : (bytes : List ℕ) → length (as_items bytes) ≡ length bytes
length-items [] = refl
length-items (b ∷ bytes) = ap suc (length-items bytes)

items_again : (got : Items) (bytes : List ℕ) → got ≡ as_items bytes → got ≡ as_items (plain_of got)
items_again got bytes e = e ∙ ap as_items (sym (plain-items bytes) ∙ ap plain_of (sym e))

-- ## Where guests stand

-- a guest has ended or not
pub ended_or : (d : Doing) → (d ≡ Ended) ⊎ (d ≢ Ended)
ended_or Ended = inl refl
ended_or Nothing = inr (λ e. cc)
ended_or Reading = inr (λ e. cc)
ended_or Writing = inr (λ e. cc)

-- an end that is held is not gone
pub held_stays : (o : Owner) (g h : ℕ) → o ≡ Held g h → is_gone o ≡ true → ⊥
held_stays o g h e f = let wrong : false ≡ true = sym (ap is_gone e) ∙ f in cc

-- ## Stages

-- the stage behind stream i is that of guest i + 1
stage_behind : (ws : List Worker) (i : ℕ) → i < length ws - 2 → stage_at (stages_of ws) i ≡ (worker_at ws (i + 1)).work.stage
stage_behind ws i l =
    get_or-map (λ (w : Worker). w.work.stage) (take (length ws - 2) (drop 1 ws)) i (new_worker Copy)
    ∙ ap (λ (w : Worker). w.work.stage) (get_or-take (length ws - 2) (drop 1 ws) i (new_worker Copy) l ∙ get_or-drop 1 ws i (new_worker Copy) ∙ ap (worker_at ws) (omega arith))

pub shorter : {A : Type 0} (n : ℕ) (xs : List A) → n ≤ length xs → length (take n xs) ≡ n
shorter zero xs l = refl
shorter (suc n) [] l = absurd (omega (arith, l))
shorter (suc n) (x ∷ xs) l = ap suc (shorter n xs (omega (arith, l)))

pub many_stages : (ws : List Worker) → 2 ≤ length ws → length (stages_of ws) + 2 ≡ length ws
many_stages ws l =
    let a : length (stages_of ws) ≡ length (take (length ws - 2) (drop 1 ws)) = length-map (take (length ws - 2) (drop 1 ws)) (λ (w : Worker). w.work.stage) in
    let b : length (take (length ws - 2) (drop 1 ws)) ≡ length ws - 2 = shorter (length ws - 2) (drop 1 ws) (omega (arith, length-drop 1 ws, l)) in
    omega (arith, a, b, l)

composed-push : (stages : List Stage) (stage : Stage) (bytes : List ℕ) → composed (stages ++ stage ∷ []) bytes ≡ of stage (composed stages bytes)
composed-push [] stage bytes = refl
composed-push (s ∷ stages) stage bytes = composed-push stages stage (of s bytes)

composed-next : (stages : List Stage) (i : ℕ) (bytes : List ℕ) → i < length stages → composed (take (i + 1) stages) bytes ≡ of (stage_at stages i) (composed (take i stages) bytes)
composed-next stages i bytes l = ap (λ s. composed s bytes) (take_more stages i Copy l) ∙ composed-push (take i stages) (stage_at stages i) bytes

-- ## What was carried

rest_is : (g : ℕ) (memory : List ℕ) (o : Option Operation) (rest : Items) → HoldsIf g 0 memory o rest → (rest ≡ as_items (bytes_at memory 0 (moved_of o))) × (moved_of o ≤ length memory)
rest_is g memory None rest h = (h, omega arith)
rest_is g memory (Some o) rest h = (h.lies, omega (arith, h.inside, h.begun.whole))

module _ (p : ChainPlay) (ws : List Worker) (some : 2 ≤ length ws) (j : IsJoined p ws) where
  abbrev pub bytes : ℕ → List ℕ
  bytes i = plain_of (got_on p.steps i)

  -- what was received on a stream are bytes
  pub got_bytes : (i : ℕ) → i + 1 < length ws → got_on p.steps i ≡ as_items (bytes i)
  got_bytes i l =
      let r = (j.joins i l).reads in
      let rest = rest_is (i + 1) (memory_in p.state.guests (i + 1)) (stream_at p.state i).reader.operation r.takes.rest r.takes.holds in
      items_again (got_on p.steps i) (r.takes.taken ++ bytes_at (memory_in p.state.guests (i + 1)) 0 (moved_of (stream_at p.state i).reader.operation))
      (r.takes.split ∙ ap (λ x. as_items r.takes.taken ++ x) rest.0 ∙ sym (as_items-append r.takes.taken _))

  front_of : (n : ℕ) (whole front : List ℕ) → front ≡ take n whole → IsFront front whole
  front_of n whole front e = subst (λ f. IsFront f whole) (sym e) (sym (front_itself n whole))

  pub first_front : IsFront (bytes 0) (input_of ws)
  first_front =
      let l : 0 + 1 < length ws = omega (arith, some) in
      let h = (j.joins 0 l).writes in
      front_of ((worker_at ws 0).sent + moved_of (stream_at p.state 0).writer.operation) (input_of ws) (bytes 0) (ap plain_of h.sends.front ∙ plain-items _)

  pub behind_front : (i : ℕ) → i < length ws - 2 → IsFront (bytes (i + 1)) (of (stage_at (stages_of ws) i) (bytes i))
  behind_front i l =
      let w = worker_at ws (i + 1) in
      let here : i + 1 < length ws = omega (arith, l) in
      let next : (i + 1) + 1 < length ws = omega (arith, l) in
      let r = (j.joins i here).reads in
      let h = (j.joins (i + 1) next).writes in
      let x = passes w.work.stage (i + 1) 0 64 w.sent w.work w.made (memory_in p.state.guests (i + 1)) (stream_at p.state i).reader.operation (stream_at p.state (i + 1)).writer.operation
      (got_on p.steps i) (got_on p.steps (i + 1)) r.takes h.sends in
      let before : x.bytes ≡ bytes i = sym (plain-items x.bytes) ∙ ap plain_of (sym x.before) in
      front_of x.count (of (stage_at (stages_of ws) i) (bytes i)) (bytes (i + 1))
      (ap plain_of x.behind ∙ plain-items _ ∙ ap (λ s. take x.count (of s x.bytes)) (sym (stage_behind ws i l)) ∙ ap (λ b. take x.count (of (stage_at (stages_of ws) i) b)) before)

  -- the sink has taken what it put out, and what has arrived behind that lies in its memory
  abbrev n : ℕ
  n = length ws - 2

  sink_is : worker_at ws (n + 1) ≡ sink_of ws
  sink_is = ap (worker_at ws) (omega (arith, some))

  pub output_is : (out : List ℕ) → length (got_on p.steps n) ≡ received n p.state → out ≡ (sink_of ws).made ++ take (received n p.state - length (sink_of ws).made) (memory_in p.state.guests (n + 1)) → out ≡ bytes n
  output_is out count e =
      let s = worker_at ws (n + 1) in
      let r = (j.joins n (omega (arith, some))).reads in
      let memory = memory_in p.state.guests (n + 1) in
      let o = (stream_at p.state n).reader.operation in
      let rest = rest_is (n + 1) memory o r.takes.rest r.takes.holds in
      let copies : s.work.stage ≡ Copy = ap (λ (w : Worker). w.work.stage) sink_is ∙ j.sink.copies in
      let made : s.made ≡ r.takes.taken = r.takes.makes ∙ of_is_done s.work.stage r.takes.taken ∙ ap (λ x. of x r.takes.taken) copies in
      let made_sink : (sink_of ws).made ≡ r.takes.taken = ap (λ (w : Worker). w.made) (sym sink_is) ∙ made in
      let all = r.takes.taken ++ bytes_at memory 0 (moved_of o) in
      let got : got_on p.steps n ≡ as_items all = r.takes.split ∙ ap (λ x. as_items r.takes.taken ++ x) rest.0 ∙ sym (as_items-append r.takes.taken _) in
      let moved : length (bytes_at memory 0 (moved_of o)) ≡ moved_of o = shorter (moved_of o) (drop 0 memory) rest.1 in
      let long : received n p.state ≡ length r.takes.taken + moved_of o = sym count ∙ ap length got ∙ length-items all ∙ length-append r.takes.taken (bytes_at memory 0 (moved_of o)) ∙ ap (λ k. length r.takes.taken + k) moved in
      e ∙ ap (λ x. x ++ take (received n p.state - length x) memory) made_sink
      ∙ ap (λ k. r.takes.taken ++ take k memory) (omega (arith, long))
      ∙ sym (ap plain_of got ∙ plain-items all)

  pub flows : (out : List ℕ) → out ≡ bytes n → Flows (stages_of ws) (input_of ws) out p.steps
  flows out e = record {
    bytes = bytes;
    received = λ i l. got_bytes i (omega (arith, l, many_stages ws some));
    first = first_front;
    behind = λ i l. behind_front i (omega (arith, l, many_stages ws some));
    output = e ∙ ap bytes (omega (arith, many_stages ws some));
  }

  -- ## Where it has ended

  -- where the next guest has nothing more to read, this one has ended
  before_ended : (s : ℕ) → s + 1 < length ws → (worker_at ws (s + 1)).closed ≡ true → (worker_at ws s).doing ≡ Ended
  before_ended s l closed =
      let at = j.joins s l in
      elim (ended_or (worker_at ws s).doing) [
        | inl e ↦ e
        | inr ne ↦ absurd (held_stays _ s at.writes.handle (at.writes.owner ne) (at.reads.gone closed))
      ]

  -- so all have, from the sink back
  all_closed : (k : ℕ) → (sink_of ws).closed ≡ true → k < length ws → (worker_at ws (length ws - 1 - k)).closed ≡ true
  all_closed zero e l = ap (λ i. (worker_at ws i).closed) (omega arith) ∙ e
  all_closed (suc k) e l =
      let s = length ws - 1 - suc k in
      let next : length ws - 1 - k ≡ s + 1 = omega (arith, l) in
      let there : s + 1 < length ws = omega (arith, l) in
      let ended = before_ended s there (ap (λ i. (worker_at ws i).closed) (sym next) ∙ all_closed k e (omega (arith, l))) in
      ((j.joins s there).writes.over ended).0

  ended_at : (s : ℕ) → s + 1 < length ws → (sink_of ws).closed ≡ true → (worker_at ws s).doing ≡ Ended
  ended_at s l e =
      before_ended s l (ap (λ i. (worker_at ws i).closed) (omega (arith, l)) ∙ all_closed (length ws - 1 - (s + 1)) e (omega (arith, l)))

  -- what each stream received is what the stages before it make of the input
  made_of : (s : ℕ) → s + 1 < length ws → (sink_of ws).closed ≡ true → got_on p.steps s ≡ as_items (composed (take s (stages_of ws)) (input_of ws))
  made_of zero l e =
      let w = worker_at ws 0 in
      let h = (j.joins 0 l).writes in
      let ended = ended_at 0 l e in
      let idle = h.idle (λ f. let wrong : Writing ≡ Ended = sym f ∙ ended in cc) in
      h.sends.front ∙ ap (λ o. as_items (take (w.sent + moved_of o) w.made)) idle
      ∙ ap as_items (take_all (w.sent + 0) w.made (omega (arith, (h.over ended).1)))
  made_of (suc s) l e =
      let w = worker_at ws (s + 1) in
      let here : s + 1 < length ws = omega (arith, l) in
      let next : (s + 1) + 1 < length ws = omega (arith, l) in
      let inside : s < length ws - 2 = omega (arith, l) in
      let r = (j.joins s here).reads in
      let h = (j.joins (s + 1) next).writes in
      let ended = ended_at (s + 1) next e in
      let read_idle = r.idle (λ f. let wrong : Reading ≡ Ended = sym f ∙ ended in cc) in
      let write_idle = h.idle (λ f. let wrong : Writing ≡ Ended = sym f ∙ ended in cc) in
      let memory = memory_in p.state.guests (s + 1) in
      let x = passes_all w.work.stage (s + 1) 0 64 w.sent w.work w.made memory [] (got_on p.steps s) (got_on p.steps (s + 1))
      (subst (λ o. Takes (s + 1) 0 (work_begun w.work.stage) w.work w.made memory o (got_on p.steps s)) read_idle r.takes)
      (subst (λ o. Sends (s + 1) 64 w.sent w.made memory o (got_on p.steps (s + 1))) write_idle h.sends) (h.over ended).1 in
      let before = composed (take s (stages_of ws)) (input_of ws) in
      let taken : x.0 ≡ before = sym (plain-items x.0) ∙ ap plain_of (sym x.1 ∙ made_of s here e) ∙ plain-items before in
      subst (λ k. got_on p.steps k ≡ as_items (composed (take k (stages_of ws)) (input_of ws))) (let e1 : s + 1 ≡ suc s = omega arith in e1)
      (x.2 ∙ ap (λ b. as_items (of w.work.stage b)) taken
      ∙ ap (λ g. as_items (of g before)) (sym (stage_behind ws s inside))
      ∙ ap as_items (sym (composed-next (stages_of ws) s (input_of ws) (omega (arith, inside, many_stages ws some)))))

  pub all_composed : (out : List ℕ) → out ≡ bytes n → (sink_of ws).closed ≡ true → out ≡ composed (stages_of ws) (input_of ws)
  all_composed out e closed =
      e ∙ ap plain_of (made_of n (omega (arith, some)) closed) ∙ plain-items _
      ∙ ap (λ s. composed s (input_of ws)) (take_all n (stages_of ws) (omega (arith, many_stages ws some)))

-- ## Counts

-- what was received on a stream is as many items as it counts
pub counts_are : (p : ChainPlay) (s : ℕ) → IsRunOf p → ((tag : ℕ) (limits : Limits) (run : List Step) (k : ℕ) → AreSteps run → Conserves k (moments (empty tag limits) run) (state_after_steps (empty tag limits) run)) → length (got_on p.steps s) ≡ received s p.state
counts_are p s r law = (law 0 _ p.steps s r.are).count ∙ ap (received s) (sym r.last_is)
