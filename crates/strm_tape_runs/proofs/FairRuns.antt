-- The records that host ends add in a run have a place on a tape.
use Rattle.std.proofs.Common.{◌≡◌, ℕ, suc, ◌+◌, ◌≤◌, List, [], ◌∷◌, ◌++◌, length, drop, map, Option, Some, None, Result, Ok, Err, refl, sym, ap, subst, ◌∙◌, arith, length-append}
use Rattle.std.specs.Prelude.{All}
use Rattle.std.specs.List.{AllZip}
use Rattle.std.proofs.lemmas.List.{take_all, drop_all, append-nil, append_assoc}
use Rattle.std.proofs.lemmas.List.Elements.{All-nil, All-append}
use Rattle.strm_buffers.specs.Tells.{WriterTells, ReaderTells, Tells}
use Rattle.strm_laws.specs.Laws.{IsCounted, AreCounted}
use Rattle.strm_machine.specs.declared.streams.Operation.{Operation}
use Rattle.strm_machine.specs.declared.replies.Reply.{Reply}
use Rattle.strm_machine.specs.declared.limits.Limits.{Limits}
use Rattle.strm_machine.specs.declared.steps.Step.{Step}
use Rattle.strm_machine.specs.declared.stops.Stop.{Stop}
use Rattle.strm_host_machine.specs.Ends.{Writer, Reader, writer_in, reader_in}
use Rattle.strm_host_machine.specs.World.{World, stream_in, writer_at}
use Rattle.strm_host_machine.specs.HostPlays.{HostPlayed, host_play, after_host_step, Ends, Halts, Hangs}
use Rattle.strm_host_machine.specs.Outcomes.{Outcome, Goes, Stops, Stuck}
use Rattle.strm_host_machine.specs.Steps.{outcome_of_step}
use Rattle.strm_host_laws.specs.HostMoments.{HostMoment, host_moments, first_moments, end_world}
use Rattle.strm_host_laws.specs.HostLaws.{WriterGoesOn, WriterHalts}
use Rattle.strm_machine.specs.Hosting.{HostsHold}
use Rattle.strm_machine.specs.declared.streams.Duty.{Duty}
use Rattle.strm_machine.specs.declared.streams.Duty.TheVariants.{Serves}
use Rattle.strm_machine.specs.declared.streams.Side.TheVariants.{Writing, Reading}
use Rattle.strm_machine.specs.declared.streams.Producer.{Producer}
use Rattle.strm_host_machine.specs.Does.{AllBegin, saids, writers_from, readers_from, world_spent}
use Rattle.strm_session.specs.declared.runs.RunStop.{RunStop}
use Rattle.strm_session.specs.declared.runs.Transcript.{Transcript}
use Rattle.strm_laws.specs.Starts.{run_start}
use Rattle.strm_session.specs.Runs.{start_among, halted_in, HaltsBy}
use Rattle.strm_host_machine.proofs.LaterLemmas.{Used}
use Rattle.strm_tape_runs.specs.declared.marks.Mark.{Mark}
use Rattle.strm_tape_runs.specs.Marks.{FairRoom, FairTaking, mark_of, reader_mark_of, IsTapable, ReaderTapable}
use Rattle.strm_tape_runs.specs.Playing.{IsRunOfSteps, FoundMemory}
use Rattle.strm_tape_runs.proofs.RunLemmas.{begins_length, payload_back, stop_found}
use Rattle.strm_tape_runs.proofs.FairRecords.{LeftFew, ReadsFew}
use Rattle.strm_tape_runs.proofs.FairWorlds.{UsedFew, Writes, Reads, EndsUsed, StepFares}
use Rattle.strm_tape_runs.proofs.FairLemmas.{step-fares}

-- the limits of a run's store
abbrev pub program_limits : Limits
program_limits = record { handles = 1000000; places = 1000000 }

-- RECORDS IN A ROW

used_twice : {A : Type 0} (j k : ℕ) (P : A → Type 0) (all mid rest : List A) → UsedFew j P all mid → UsedFew k P mid rest → UsedFew (j + k) P all rest
used_twice j k P all mid rest a b =
    let x = a.0 in
    let y = b.0 in
    let both = length-append x.0 y.0 in
    ((x.0 ++ y.0, x.1 ∙ ap (λ ys. x.0 ++ ys) y.1 ∙ sym (append_assoc x.0 y.0 rest), All-append P x.0 y.0 x.2 y.2), omega (arith, both, a.1, b.1))

used_more_at_most : {A : Type 0} (j k : ℕ) (P : A → Type 0) (all rest : List A) → j ≤ k → UsedFew j P all rest → UsedFew k P all rest
used_more_at_most j k P all rest l a = (a.0, omega (arith, l, a.1))

-- all that were to come were used
whole_used : {A : Type 0} (P : A → Type 0) (all rest : List A) (u : Used P all rest) → rest ≡ [] → all ≡ u.0
whole_used P all rest u e = u.1 ∙ ap (λ ys. u.0 ++ ys) e ∙ append-nil u.0

all_used : {A : Type 0} (k : ℕ) (P : A → Type 0) (all rest : List A) → rest ≡ [] → UsedFew k P all rest → All P all
all_used k P all rest e u = subst (All P) (sym (whole_used P all rest u.0 e)) u.0.2

few_used : {A : Type 0} (k : ℕ) (P : A → Type 0) (all rest : List A) → rest ≡ [] → UsedFew k P all rest → length all ≤ k
few_used k P all rest e u = let long = ap (λ xs. length xs) (whole_used P all rest u.0 e) in omega (arith, long, u.1)

ends_twice : (j : ℕ) (first w : World) (ws : List Writer) (rs : List Reader) → EndsUsed first j w.writers w.readers → EndsUsed w 1 ws rs → EndsUsed first (j + 1) ws rs
ends_twice j first w ws rs a b = record {
  writers = λ n. used_twice j 1 FairRoom _ _ _ (a.writers n) (b.writers n);
  readers = λ r. used_twice j 1 FairTaking _ _ _ (a.readers r) (b.readers r);
}

ends_at_most : (j k : ℕ) (first : World) (ws : List Writer) (rs : List Reader) → j ≤ k → EndsUsed first j ws rs → EndsUsed first k ws rs
ends_at_most j k first ws rs l a = record {
  writers = λ n. used_more_at_most j k FairRoom _ _ l (a.writers n);
  readers = λ r. used_more_at_most j k FairTaking _ _ l (a.readers r);
}

-- ONE STEP MORE

-- a run goes on from where another ended
continued : HostPlayed → List Step → HostPlayed
continued (Ends told w) more = host_play told w more
continued p more = p

goes_through : (told : List Reply) (o : Outcome) (next : List Reply → World → HostPlayed) (on : List Reply → World → HostPlayed) (more : List Step)
    → ((t : List Reply) (v : World) → on t v ≡ continued (next t v) more) → after_host_step told o on ≡ continued (after_host_step told o next) more
unfolding continued
goes_through told (Goes reply v) next on more h = h (told ++ reply ∷ []) v
goes_through told (Stops stop ws rs) next on more h = refl
goes_through told Stuck next on more h = refl

play_on : (xs more : List Step) (told : List Reply) (w : World) → host_play told w (xs ++ more) ≡ continued (host_play told w xs) more
unfolding continued
play_on [] more told w = refl
play_on (x ∷ xs) more told w =
    goes_through told (outcome_of_step w x) (λ t v. host_play t v xs) (λ t v. host_play t v (xs ++ more)) more (λ t v. play_on xs more t v)

one_on : (first : World) (front : List Step) (told : List Reply) (w : World) (step : Step) (reply : Reply) (v : World) → host_play [] first front ≡ Ends told w → outcome_of_step w step ≡ Goes reply v → host_play [] first (front ++ step ∷ []) ≡ Ends (told ++ reply ∷ []) v
unfolding continued
one_on first front told w step reply v e q =
    play_on front (step ∷ []) [] first ∙ ap (λ p. continued p (step ∷ [])) e ∙ ap (λ o. after_host_step told o (λ t x. Ends t x)) q

-- A RUN

counted_few : (o : Option Operation) → IsCounted o → LeftFew o
counted_few None h = tt
counted_few (Some operation) h = omega (arith, h)

-- the items of each operation are a count, in whichever run from this world
abbrev pub AllCounted : World → Type 0
AllCounted first = (run : List Step) (count s : ℕ) → AreCounted (stream_in (end_world first (first_moments count first run)) s)

-- the moments of a run lead to its end
abbrev pub AllLead : World → Type 0
AllLead first = (run : List Step) (replies : List Reply) (end : World) → host_play [] first run ≡ Ends replies end → end_world first (host_moments first run) ≡ end

-- host ends and streams agree, in whichever run from it
abbrev pub AllHold : World → Type 0
AllHold first = (run : List Step) (count : ℕ) → HostsHold (end_world first (first_moments count first run)).state

served_by : Duty → ℕ
served_by (Serves s) = s
served_by _ = 0

one_writer : (w : World) → HostsHold w.state → (n s t : ℕ) → Writes w n s → Writes w n t → t ≡ s
unfolding served_by
one_writer w h n s t a b = ap served_by (sym ((h.serve Writing n t).serves b) ∙ (h.serve Writing n s).serves a)

one_reader : (w : World) → HostsHold w.state → (r s t : ℕ) → Reads w r s → Reads w r t → t ≡ s
unfolding served_by
one_reader w h r s t a b = ap served_by (sym ((h.serve Reading r t).serves b) ∙ (h.serve Reading r s).serves a)

module _ (first : World) (counted : AllCounted first) (hold : AllHold first) (lead : AllLead first) where
  few_there : (front : List Step) (told : List Reply) (w : World) → host_play [] first front ≡ Ends told w → (s : ℕ) → ReadsFew (stream_in w s)
  few_there front told w e s =
      let all = host_moments first front in
      let there = subst (λ (xs : List HostMoment). AreCounted (stream_in (end_world first xs) s)) (take_all (length all) all (omega arith)) (counted front (length all) s) in
      let here = subst (λ (x : World). AreCounted (stream_in x s)) (lead front told w e) there in
      counted_few (stream_in w s).reader.operation here.1

  hold_there : (front : List Step) (told : List Reply) (w : World) → host_play [] first front ≡ Ends told w → HostsHold w.state
  hold_there front told w e =
      let all = host_moments first front in
      let there = subst (λ (xs : List HostMoment). HostsHold (end_world first xs).state) (take_all (length all) all (omega arith)) (hold front (length all)) in
      subst (λ (x : World). HostsHold x.state) (lead front told w e) there

  -- a run of these steps leads to this world
  abbrev Leads : List Step → List Reply → World → Type 0
  Leads front told w = host_play [] first front ≡ Ends told w

  -- what was used up to a world, of each end so many at most
  abbrev Fair : ℕ → World → Type 0
  Fair k w = EndsUsed first k w.writers w.readers

  -- what a run that comes out so used
  abbrev Out : ℕ → HostPlayed → Type 0
  Out k (Ends told w) = Fair k w
  Out k (Halts told stop ws rs) = EndsUsed first k ws rs
  Out k (Hangs told) = Unit {0}

  abbrev RestFair : ℕ → ℕ → List Reply → List Step → List Step → Step → Type 0
  RestFair m k told more front step =
      (reply : Reply) (v : World) → host_play [] first (front ++ step ∷ []) ≡ Ends (told ++ reply ∷ []) v → Fair (k + 1) v → Out m (host_play (told ++ reply ∷ []) v more)

  by_outcome : (m k : ℕ) (f : List Step) (told : List Reply) (w : World) (step : Step) (more : List Step) → k + 1 ≤ m → Leads f told w → Fair k w → RestFair m k told more f step
      → (o : Outcome) → outcome_of_step w step ≡ o → StepFares w o → Out m (after_host_step told o (λ t v. host_play t v more))
  by_outcome m k front told w step more l e u rest (Goes reply v) q h = rest reply v (one_on first front told w step reply v e q) (ends_twice k first w v.writers v.readers u h)
  by_outcome m k front told w step more l e u rest (Stops stop ws rs) q h = ends_at_most (k + 1) m first ws rs l (ends_twice k first w ws rs u h)
  by_outcome m k front told w step more l e u rest Stuck q h = tt

  run_fair : (m k : ℕ) (rest front : List Step) (told : List Reply) (w : World) → k + length rest ≤ m → host_play [] first front ≡ Ends told w → Fair k w → Out m (host_play told w rest)
  run_fair m k [] front told w l e u = ends_at_most k m first w.writers w.readers (omega (arith, l)) u
  run_fair m k (step ∷ more) front told w l e u =
      let h = hold_there front told w e in
      by_outcome m k front told w step more (omega (arith, l)) e u (λ reply v f x. run_fair m (k + 1) more (front ++ step ∷ []) (told ++ reply ∷ []) v (omega (arith, l)) f x) (outcome_of_step w step) refl
      (step-fares w (one_writer w h) (one_reader w h) (few_there front told w e) step)

  whole_fair : (steps : List Step) → Out (length steps) (host_play [] first steps)
  whole_fair steps =
      run_fair (length steps) 0 steps [] [] first (omega arith) refl
      (record { writers = λ n. (([], refl, All-nil FairRoom), omega arith); readers = λ r. (([], refl, All-nil FairTaking), omega arith) })

  pub ended_fair : (steps : List Step) (told : List Reply) (w : World) → host_play [] first steps ≡ Ends told w → Fair (length steps) w
  ended_fair steps told w e = subst (Out (length steps)) e (whole_fair steps)

  pub halted_fair : (steps : List Step) (told : List Reply) (stop : Stop) (ws : List Writer) (rs : List Reader) → host_play [] first steps ≡ Halts told stop ws rs → EndsUsed first (length steps) ws rs
  halted_fair steps told stop ws rs e = subst (Out (length steps)) e (whole_fair steps)

-- WHAT HOST ENDS TELL

-- host writers that tell this, and will have said that in the end
abbrev as_writers : List Producer → List WriterTells → List WriterTells → List Writer
as_writers ps ws vs = writers_from ps ws (map (λ (v : WriterTells). v.said) vs)

-- host readers
abbrev as_readers : List ReaderTells → List ReaderTells → List Reader
as_readers ws vs = readers_from ws (map (λ (v : ReaderTells). v.said) vs)

-- all that host writers added was used in a run, and they stayed of their payloads
record WritersGo (k : ℕ) (ps qs : List Producer) (ws vs : List WriterTells) : Type 0 where
  used : (n : ℕ) → UsedFew k FairRoom (writer_in (as_writers ps ws vs) n).coming (writer_in (as_writers qs vs vs) n).coming
  typed : (n : ℕ) → (writer_in (as_writers qs vs vs) n).payload ≡ (writer_in (as_writers ps ws vs) n).payload

-- all that host readers added was
abbrev ReadersGo : ℕ → List ReaderTells → List ReaderTells → Type 0
ReadersGo k ws vs = (r : ℕ) → UsedFew k FairTaking (reader_in (as_readers ws vs) r).coming (reader_in (as_readers vs vs) r).coming

writers_tapable : (k : ℕ) (ps qs : List Producer) (ws vs : List WriterTells) → k ≤ 4294967295 → AllBegin (map (λ w. w.said) ws) (map (λ w. w.said) vs) → WritersGo k ps qs ws vs → AllZip IsTapable (map mark_of ws) vs
writers_tapable k ps qs [] [] l b g = tt
writers_tapable k ps qs [] (v ∷ vs) l b g = absurd b
writers_tapable k ps qs (w ∷ ws) [] l b g = absurd b
writers_tapable k ps qs (w ∷ ws) (v ∷ vs) l b g =
    let added = drop (length w.said) v.said in
    let rest = drop (length v.said) v.said in
    let none = drop_all (length v.said) v.said (omega arith) in
    let few = few_used k FairRoom added rest none (g.used 0) in (
      record {
        reached = begins_length w.said v.said b.0;
        rooms = all_used k FairRoom added rest none (g.used 0);
        typed = g.typed 0 ∙ sym (payload_back w.kind w.payload);
        few = omega (arith, l, few);
      },
      writers_tapable k (drop 1 ps) (drop 1 qs) ws vs l b.1 (record { used = λ n. g.used (suc n); typed = λ n. g.typed (suc n) }),
    )

readers_tapable : (k : ℕ) (ws vs : List ReaderTells) → k ≤ 4294967295 → AllBegin (map (λ w. w.said) ws) (map (λ w. w.said) vs) → ReadersGo k ws vs → AllZip ReaderTapable (map reader_mark_of ws) vs
readers_tapable k [] [] l b u = tt
readers_tapable k [] (v ∷ vs) l b u = absurd b
readers_tapable k (w ∷ ws) [] l b u = absurd b
readers_tapable k (w ∷ ws) (v ∷ vs) l b u =
    let added = drop (length w.said) v.said in
    let rest = drop (length v.said) v.said in
    let none = drop_all (length v.said) v.said (omega arith) in
    let few = few_used k FairTaking added rest none (u 0) in (
      record {
        reached = begins_length w.said v.said b.0;
        taken = all_used k FairTaking added rest none (u 0);
        few = omega (arith, l, few);
      },
      readers_tapable k ws vs l b.1 (λ n. u (suc n)),
    )

-- host writers stay of their payloads
abbrev pub AllGoOn : World → Type 0
AllGoOn first = (run : List Step) (count n : ℕ) → WriterGoesOn n (first_moments count first run) (writer_at first n) (writer_at (end_world first (first_moments count first run)) n)

abbrev pub AllStop : World → Type 0
AllStop first = (run : List Step) (replies : List Reply) (stop : Stop) (ws : List Writer) (rs : List Reader) → host_play [] first run ≡ Halts replies stop ws rs → (n : ℕ) → WriterHalts (writer_at (end_world first (host_moments first run)) n) (writer_in ws n)

moments_typed : (first : World) → AllGoOn first → (run : List Step) (n : ℕ) → (writer_at (end_world first (host_moments first run)) n).payload ≡ (writer_at first n).payload
moments_typed first go run n =
    let all = host_moments first run in
    subst (λ (xs : List HostMoment). (writer_at (end_world first xs) n).payload ≡ (writer_at first n).payload) (take_all (length all) all (omega arith)) (go run (length all) n).payload

-- a run that found memory used these records of the host ends, which stayed of their payloads
record CameOut (k : ℕ) (old new : Tells) : Type 0 where
  ps : List Producer
  used : EndsUsed (start_among old new) k (writers_from ps new.writers (saids new).writers) (readers_from new.readers (saids new).readers)
  typed : (n : ℕ) → (writer_in (writers_from ps new.writers (saids new).writers) n).payload ≡ (writer_at (start_among old new) n).payload

module _ (old new : Tells) (counted : AllCounted (start_among old new)) (hold : AllHold (start_among old new)) (lead : AllLead (start_among old new)) (go : AllGoOn (start_among old new)) (stop : AllStop (start_among old new)) where
  came_out : (steps : List Step) (end : Result Transcript RunStop) → IsRunOfSteps old new steps end → FoundMemory end → CameOut (length steps) old new
  came_out steps (Ok t) r m =
      let first = start_among old new in
      record {
        ps = t.store.producers;
        used = ended_fair first counted hold lead steps t.replies (world_spent t.store new) r.ok.played;
        typed = λ n. subst (λ (w : World). (writer_at w n).payload ≡ (writer_at first n).payload) (lead steps t.replies (world_spent t.store new) r.ok.played) (moments_typed first go steps n);
      }
  came_out steps (Err s) r m =
      let first = start_among old new in
      let why = stop_found s.cause m in
      let there = world_spent (halted_in first steps) new in
      let halts = subst (λ (o : Option Stop). HaltsBy first steps s.replies new o) why.1 r.stop.stops.halts in
      record {
        ps = (halted_in first steps).producers;
        used = halted_fair first counted hold lead steps s.replies why.0 there.writers there.readers halts;
        typed = λ n. (stop steps s.replies why.0 there.writers there.readers halts n).payload ∙ moments_typed first go steps n;
      }

  -- what was added has a place on a tape
  pub run_tapable : (steps : List Step) (end : Result Transcript RunStop) (marks : List Mark) → length steps ≤ 4294967295 → marks ≡ map mark_of old.writers → IsRunOfSteps old new steps end → FoundMemory end → AllZip IsTapable marks new.writers
  run_tapable steps end marks l e r m =
      let out = came_out steps end r m in
      subst (λ ms. AllZip IsTapable ms new.writers) (sym e)
      (writers_tapable (length steps) run_start.producers out.ps old.writers new.writers l r.goes_on.begins.0 (record { used = out.used.writers; typed = out.typed }))

  pub run_readers_tapable : (steps : List Step) (end : Result Transcript RunStop) (marks : List Mark) → length steps ≤ 4294967295 → marks ≡ map reader_mark_of old.readers → IsRunOfSteps old new steps end → FoundMemory end → AllZip ReaderTapable marks new.readers
  run_readers_tapable steps end marks l e r m =
      let out = came_out steps end r m in
      subst (λ ms. AllZip ReaderTapable ms new.readers) (sym e)
      (readers_tapable (length steps) old.readers new.readers l r.goes_on.begins.1 out.used.readers)
