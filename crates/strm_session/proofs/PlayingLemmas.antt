-- Runs of steps that are given one by one: what holds before each step, and of the end.
use Rattle.std.proofs.Common.{◌≡◌, ℕ, ◌+◌, ◌<◌, ◌≤◌, false, List, [], ◌∷◌, ◌++◌, length, take, drop, get_or, Result, Ok, Err, refl, sym, ap, subst, ◌∙◌, arith}
use Rattle.std.specs.Prelude.{All, IfOk, IfErr, IsErrAnd}
use Rattle.std.proofs.Math.Nat.{le_trans}
use Rattle.std.proofs.lemmas.List.{take_all, take_more, append-nil, drop_more, length-drop, length_push}
use Rattle.std.proofs.lemmas.List.Elements.{All-nil, All-push}
use Rattle.strm_buffers.specs.Tells.{Tells, HoldsItems}
use Rattle.strm_laws.specs.Laws.{StepHasBytes}
use Rattle.strm_machine.specs.Acts.{act_of}
use Rattle.strm_machine.specs.State.{State}
use Rattle.strm_laws.specs.Starts.{run_start}
use Rattle.strm_machine.specs.Plays.{play, Ends}
use Rattle.strm_machine.specs.Untouched.{StaysAside, LieThere}
use Rattle.strm_machine.specs.declared.steps.Step.{Step}
use Rattle.strm_machine.specs.declared.replies.Reply.{Reply}
use Rattle.strm_transmit.specs.Hosted.{lone}
use Rattle.strm_host_machine.specs.World.{World}
use Rattle.strm_host_machine.specs.Steps.{outcome_of_step, touches}
use Rattle.strm_host_machine.specs.Does.{Fits, Does}
use Rattle.strm_host_machine.specs.Asking.{GuestAsksBad}
use Rattle.strm_host_machine.specs.HostPlays.{host_play as play_among}
use Rattle.strm_machine.specs.Hosting.{HostsHold}
use Rattle.strm_session.specs.declared.playing.Ended.{Ended}
use Rattle.strm_session.specs.declared.runs.RunCause.{RunCause}
use Rattle.strm_session.specs.declared.runs.RunCause.TheVariants as causes
use Rattle.strm_session.specs.Records.{StopsByRecord, StopRules}
use Rattle.strm_session.specs.Runs.{start_among, AreOfGuests, received_counts, stop_of, StopsAmong, StopsOutOfMemory, LeavesOutOfMemory, Before, StopsStep, StopsAt, HasStopped}
use Rattle.strm_session.specs.Playing.{IsRunPlayed, HasRun}
use Rattle.strm_session.proofs.PlayLemmas.{IsAt, stops, stopped_before}
use Rattle.strm_host_machine.proofs.DoesLemmas.{extends_self}
use Rattle.strm_session.proofs.AmongLemmas.{WritersGone, LedAmong, led_none, led_more, begins_among, runs_to, stops_among, stops_behind, out_of_memory_there}
use Rattle.strm_session.proofs.KeptLemmas.{LawsAmong, LeadsAmong, WritersClose, ReadersClose, WritersStop, ReadersStop, are_first, kept_among, stop_kept, stop_closes, stop_uses, delivers_each}
use Rattle.strm_session.proofs.LawLemmas.{LawsHold, StepHolds, run_kept, front_kept}
use Rattle.strm_session.proofs.RecordLemmas.{KeepOn, keep_none, rules_of_stop, rules_more, hosts_before, stops_by_record}
use Rattle.strm_session.proofs.AloneLemmas.{run_start-fits, LedByGuests, StepAlone, alone_none, alone_more, alone_before, untouched_at}

-- the next of the steps that are left behind the first k
is_next : (steps : List Step) (k : ℕ) (step : Step) (rest : List Step) → drop k steps ≡ step ∷ rest → IsAt steps k step × (drop (k + 1) steps ≡ rest)
is_next steps k step rest e =
    let inside : k < length steps = omega (arith, ap length e, length-drop k steps) in
    let same : get_or steps k step ∷ drop (k + 1) steps ≡ step ∷ rest = sym (drop_more steps k step inside) ∙ e in
    (record { inside = inside; is = cc }, cc)

-- what holds behind the first k steps, with these replies, where these are left
pub record Playing (old now : Tells) (steps : List Step) (k : ℕ) (left : List Step) (told : List Reply) (state : State) : Type 0 where
  pub led : LedAmong old steps k told state now
  pub alone : LedByGuests old steps k told state now
  pub keeps : KeepOn old now
  pub fits : Fits state now
  pub running : state.trapped ≡ false
  pub count : length told ≡ k
  pub rest : drop k steps ≡ left
  pub bytes : All StepHasBytes (take k steps)

pub playing_none : (old : Tells) (steps : List Step) → Playing old old steps 0 steps [] run_start
playing_none old steps = record {
  led = led_none old steps;
  alone = λ _. alone_none old steps;
  keeps = keep_none old;
  fits = run_start-fits old;
  running = refl;
  count = refl;
  rest = refl;
  bytes = All-nil StepHasBytes;
}

-- one step more, which is answered or stops the run
module _ (old now new : Tells) (steps left rest : List Step) (k : ℕ) (step : Step) (told : List Reply) (state next : State) (p : Playing old now steps k left told state) (is : left ≡ step ∷ rest) where
  at : IsAt steps k step × (drop (k + 1) steps ≡ rest)
  at = is_next steps k step rest (p.rest ∙ is)

  -- where the step touches no host end
  abbrev Aside : Type 0 → Type 0
  Aside P = touches (lone state) (act_of step) ≡ false → P

  module _ (laws : LawsAmong (start_among old now)) (leads : LeadsAmong (start_among old now)) (gone : (tells : Tells) → WritersGone (start_among old tells) steps) (few : length steps ≤ 4294967295) where
    -- with what this step puts into a memory
    bytes_more : StepHasBytes step → All StepHasBytes (take (k + 1) steps)
    bytes_more bytes =
        subst (All StepHasBytes) (sym (take_more steps k _ at.0.inside))
        (All-push StepHasBytes (take k steps) _ p.bytes (subst StepHasBytes (sym at.0.is) bytes))

    hold : HostsHold state
    hold = hosts_before old now laws leads steps k told state (are_first steps k few p.bytes) p.led

    pub playing_more : (reply : Reply) → StepHasBytes step → Does state next now new (Ok reply) (λ w. outcome_of_step w step)
        → Fits next new → next.trapped ≡ false → Aside (StepAlone told (told ++ reply ∷ []) state next now new step)
        → Playing old new steps (k + 1) rest (told ++ reply ∷ []) next
    playing_more reply bytes d fits running alone = record {
      led = led_more old now new steps k step told state next at.0 p.led reply d;
      alone = alone_more old now steps k told state p.alone new step (told ++ reply ∷ []) next at.0 alone;
      keeps = rules_more old now new state next step reply p.keeps hold p.fits d;
      fits = fits;
      running = running;
      count = length_push told reply ∙ ap (λ n. n + 1) p.count;
      rest = at.1;
      bytes = bytes_more bytes;
    }

    module _ (cause : RunCause) (here : StepHasBytes step) (d : Does state next now new (Err (stop_of cause)) (λ w. outcome_of_step w step))
        (unmet : cause ≡ causes.OutOfMemory → (s : ℕ) → GuestAsksBad (lone state) step s → ⊥)
        (wants : LeavesOutOfMemory state next now new step cause) (alone : Aside (StopsStep told state step cause × (new ≡ now))) where
      stopped_so : IsRunPlayed old new steps told next (Err cause)
      stopped_so =
          let begins = begins_among old now steps k told state now p.led (extends_self now) in
          let touched = λ (all : AreOfGuests steps). alone (untouched_at steps k step state at.0 (alone_before old now steps k told state p.alone all).unhosted all) in
          record {
            ok = tt;
            stop = stops_among old now new steps k step told state next at.0 p.led (gone new) cause p.count p.running unmet d;
            by_record = stops_by_record old now new state next step (stop_of cause) begins hold p.fits d;
            rules_kept = tt;
            rules = rules_of_stop old now new state next step (stop_of cause) p.keeps hold p.fits d;
            out_of_memory = out_of_memory_there old now new steps k step told state next at.0 p.led p.count gone cause (d.begins _ (extends_self new)) wants;
            alone = λ _. tt;
            stop_alone = λ all.
                let l = alone_before old now steps k told state p.alone all in (
                  state,
                  stopped_before steps k told state p.count l.so_far,
                  stops steps k step told state cause at.0 p.count l.so_far p.running (touched all).0,
                );
            hosts = λ all. (touched all).1 ∙ (alone_before old now steps k told state p.alone all).same;
            goes_on = record {
              begins = begins_among old new steps k told state now p.led (d.begins _ (extends_self new));
              faults = λ end. le_trans (p.led.faults end) (d.faults end);
              supplied = d.supplied old p.led.supplied;
            };
            all = tt;
            count = omega (arith, p.count, at.0.inside);
            bytes = subst (λ n. All StepHasBytes (take n steps)) (sym p.count) p.bytes;
            bytes_there = subst (λ n. All StepHasBytes (take (n + 1) steps)) (sym p.count) (bytes_more here);
          }

      -- of what the exit of a `?` answers
      pub played_stop : (r : Result (Unit {0}) RunCause) → IsErrAnd r (λ e. e ≡ cause) → IsRunPlayed old new steps told next r
      played_stop (Ok u) f = absurd f
      played_stop (Err e) f = subst (λ x. IsRunPlayed old new steps told next (Err x)) (sym f) stopped_so

-- all steps are done
pub played_all : (old now : Tells) (steps left : List Step) (k : ℕ) (told : List Reply) (state : State) (u : Unit {0}) → Playing old now steps k left told state → k ≡ length steps → IsRunPlayed old now steps told state (Ok u)
played_all old now steps left k told state u p e =
    let whole : length steps ≤ k = omega (arith, e) in
    record {
      ok = runs_to old now steps k told state whole p.led;
      stop = tt;
      by_record = tt;
      rules_kept = p.keeps.rules;
      rules = tt;
      out_of_memory = tt;
      alone = λ all.
          ap (play [] run_start) (sym (append-nil (take k steps) ∙ take_all k steps whole))
          ∙ (alone_before old now steps k told state p.alone all).so_far [];
      stop_alone = λ _. tt;
      hosts = λ all. (alone_before old now steps k told state p.alone all).same;
      goes_on = record { begins = begins_among old now steps k told state now p.led (extends_self now); faults = p.led.faults; supplied = p.led.supplied };
      all = p.count ∙ e;
      count = omega (arith, p.count, e);
      bytes = subst (λ n. All StepHasBytes (take n steps)) (sym p.count) p.bytes;
      bytes_there =
          let all : take k steps ≡ take (length told + 1) steps = take_all k steps whole ∙ sym (take_all (length told + 1) steps (omega (arith, p.count, whole))) in
          subst (All StepHasBytes) all p.bytes;
    }

-- of guests alone it stopped as the machine without host ends does
abbrev StoppedAlone : List Step → List Reply → RunCause → Type 0
StoppedAlone steps told cause =
    AreOfGuests steps → (s : State) × (play [] run_start (take (length told) steps) ≡ Ends told s) × StopsAt steps told cause

-- a run by its play, and by the laws of all runs
module _ (laws : LawsHold) (aside : StepHolds StaysAside) (put : StepHolds LieThere) (among : (old new : Tells) → LawsAmong (start_among old new)) (leads : (old new : Tells) → LeadsAmong (start_among old new)) (writers_close : (old new : Tells) (steps : List Step) → WritersClose (start_among old new) steps) (readers_close : (old new : Tells) (steps : List Step) → ReadersClose (start_among old new) steps) (writers_stop : (old new : Tells) (steps : List Step) → WritersStop (start_among old new) steps) (readers_stop : (old new : Tells) (steps : List Step) → ReadersStop (start_among old new) steps) (old new : Tells) (steps : List Step) (few : length steps ≤ 4294967295) (told : List Reply) (state : State) where
  -- what the first of the steps put into memories is bytes
  abbrev BytesTo : ℕ → Type 0
  BytesTo n = All StepHasBytes (take n steps)

  -- the world that it begins from
  abbrev begun : World
  begun = start_among old new

  -- why it stopped, and what held before
  stopped_by : (c : RunCause) → BytesTo (length told) → BytesTo (length told + 1) → StopsAmong old new steps told c → StopsByRecord old new (stop_of c) → StopRules (stop_of c) old new
      → StopsOutOfMemory old new steps told (stop_of c) → StoppedAlone steps told c → HasStopped old new steps told c
  stopped_by cause bytes there stop by_record rules out_of_memory alone = record {
    stops = stop;
    by_record = by_record;
    rules = rules;
    closes = stop_closes (start_among old new) steps (writers_close old new steps) (readers_close old new steps) told new (stop_of cause) stop.halts;
    uses = stop_uses (start_among old new) steps (writers_stop old new steps) (readers_stop old new steps) told new (stop_of cause) stop.halts;
    out_of_memory = out_of_memory;
    kept_before = stop_kept old new (among old new) (leads old new) steps told cause (are_first steps (length told) few bytes) stop;
    kept_until = among old new (take (length told + 1) steps) (are_first steps (length told + 1) few there);
    alone = λ all.
        let s = alone all in
        record {
          state = s.0;
          before = s.1;
          kept = front_kept laws aside put steps (length told) told s.0 few bytes s.1;
          at = s.2;
        };
  }

  pub run_stopped : (cause : RunCause) → IsRunPlayed old new steps told state (Err cause) → HasRun old new steps told (Err cause)
  run_stopped cause p = record {
    ok = tt;
    received = tt;
    stop = stopped_by cause p.bytes p.bytes_there p.stop p.by_record p.rules p.out_of_memory p.stop_alone;
    hosts = p.hosts;
    goes_on = p.goes_on;
    count = p.count;
  }

  -- all steps were done, but the counts may find no memory
  module _ (u : Unit {0}) (p : IsRunPlayed old new steps told state (Ok u)) where
    all : take (length told) steps ≡ steps
    all = take_all (length told) steps (omega (arith, p.all))

    bytes : All StepHasBytes steps
    bytes = subst (All StepHasBytes) all p.bytes

    before : AreOfGuests steps → play [] run_start (take (length told) steps) ≡ Ends told state
    before alone = ap (play [] run_start) all ∙ p.alone alone

    unkept : HasRun old new steps told (Err causes.OutOfMemory)
    unkept = record {
      ok = tt;
      received = tt;
      stop = stopped_by causes.OutOfMemory p.bytes p.bytes_there (stops_behind old new steps told state p.all p.ok) tt tt (Before state (ap (play_among [] (start_among old new)) all ∙ p.ok)) (λ alone. (
        state,
        before alone,
        ([], state, ap (play [] run_start) (take_all (length told + 1) steps (omega (arith, p.all))) ∙ p.alone alone ∙ ap (λ t. Ends t state) (sym (append-nil told))),
      ));
      hosts = p.hosts;
      goes_on = p.goes_on;
      count = p.count;
    }

    pub run_ended : All HoldsItems old.writers → (r : Result Ended RunCause) → IfOk r (λ e. (e.store ≡ state) × (e.moved ≡ received_counts state)) → IfErr r (λ cause. cause ≡ causes.OutOfMemory) → HasRun old new steps told r
    run_ended held (Err cause) o e = subst (λ c. HasRun old new steps told (Err c)) (sym e) unkept
    run_ended held (Ok ended) o e =
        let kept = kept_among (start_among old new) (among old new) (leads old new) steps told _ (record { few = few; bytes = bytes }) p.ok in
        record {
          ok = rw o.0 (record {
            played = p.ok;
            kept_among = kept;
            delivers = delivers_each old new steps state kept held p.goes_on.supplied;
            rules = p.rules_kept;
            alone = p.alone;
            kept = λ alone. run_kept laws aside put steps told state few bytes (p.alone alone);
          });
          received = rw o.0 o.1;
          stop = tt;
          hosts = p.hosts;
          goes_on = p.goes_on;
          count = p.count;
        }

-- the same run, by other words for its steps and its replies
pub has_run : {old new : Tells} {steps given : List Step} {told replies : List Reply} {r : Result Ended RunCause} → given ≡ steps → replies ≡ told → HasRun old new given told r → HasRun old new steps replies r
has_run {old} {new} {steps} {given} {told} {replies} {r} s t h =
    subst (λ all. HasRun old new all replies r) s (subst (λ kept. HasRun old new given kept r) (sym t) h)
