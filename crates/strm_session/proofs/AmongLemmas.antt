-- Plays among host ends, step by step, on whatever records are yet to come.
use Rattle.std.proofs.Common.{◌≡◌, ℕ, ◌+◌, ◌≤◌, false, List, [], ◌∷◌, ◌++◌, length, take, drop, get_or, suc, Ok, Err, Option, Some, None, refl, sym, ap, subst, ◌∙◌, append_assoc, arith}
use Rattle.std.proofs.Math.Seq.{split_at}
use Rattle.std.proofs.lemmas.List.{append-nil, take_all}
use Rattle.std.proofs.Math.Nat.{le_trans}
use Rattle.strm_buffers.specs.Said.{WriterSaid}
use Rattle.strm_buffers.specs.Tells.{WriterTells, Tells}
use Rattle.strm_machine.specs.State.{State, no_producer}
use Rattle.strm_laws.specs.Starts.{run_start}
use Rattle.strm_machine.specs.declared.streams.Duty.{Duty}
use Rattle.strm_machine.specs.declared.streams.Duty.TheVariants.{Unused, Serves, Ended}
use Rattle.strm_machine.specs.declared.streams.Producer.{Producer}
use Rattle.strm_machine.specs.declared.steps.Step.{Step}
use Rattle.strm_machine.specs.declared.replies.Reply.{Reply}
use Rattle.strm_machine.specs.declared.stops.Stop.{Stop}
use Rattle.strm_machine.specs.declared.streams.HostEnd.{HostEnd}
use Rattle.strm_host_machine.specs.Outcomes.{Outcome}
use Rattle.strm_host_machine.specs.Steps.{outcome_of_step}
use Rattle.strm_host_machine.specs.HostPlays.{host_play, after_host_step, Ends, Halts}
use Rattle.strm_host_machine.specs.Ends.{Writer, Reader, writer_in}
use Rattle.strm_host_machine.specs.World.{World}
use Rattle.strm_host_laws.specs.HostLaws.{EndsExactly}
use Rattle.strm_host_machine.specs.Asking.{GuestAsksBad, AsksBadItem, ByGuest, InCall, InDrive, stands_at}
use Rattle.strm_host_machine.proofs.AskingLemmas.{stops-asks, asks-stops}
use Rattle.strm_machine.specs.Reactions.{Reaction}
use Rattle.strm_machine.specs.declared.stops.Stop.TheVariants.{HostFailed, BadItem}
use Rattle.strm_machine.proofs.AskedLemmas.{bad-traps}
use Rattle.std.specs.Prelude.{slice_get}
use Rattle.std.proofs.lemmas.Option.{slice_get_within, slice_get-get_or}
use Rattle.strm_host_machine.specs.Does.{Logs, saids, Extends, is_ended, first_duty, first_log, writer_of, writers_from, world_of, world_spent, faults_of, Caused, Does, RunsTo, StopsWith, AreSuppliedSince}
use Rattle.strm_host_machine.proofs.DoesLemmas.{rose_more, extends_self}
use Rattle.strm_host_machine.proofs.GrowLemmas.{supplied_since_itself}
use Rattle.strm_session.specs.Records.{HostsGoOn}
use Rattle.strm_session.specs.Runs.{start_among, stop_of, halted_in, HaltsBy, Raised, StaysThere, StopsAsking, RunsOutUnmet, StopsAmong, RunsOutThere, Before, Behind, InPoll, BeforeOffer, StopsOutOfMemory, RunsOutStep, Polling, Untouched, Unkept, LeavesOutOfMemory}
use Rattle.strm_transmit.specs.Hosted.{lone}
use Rattle.strm_transmit.specs.OutOfMemory.{RunsOutInPoll, InAPoll, InADrive}
use Rattle.strm_session.specs.declared.runs.RunCause.{RunCause}
use Rattle.strm_session.specs.declared.runs.RunCause.TheVariants as causes
use Rattle.strm_session.proofs.PlayLemmas.{IsAt, take-at}

-- a call that did nothing to host ends
pub goes_on_itself : (tells : Tells) → HostsGoOn tells tells
goes_on_itself tells = record { begins = extends_self tells; faults = λ end. omega arith; supplied = supplied_since_itself tells }

pub goes_on_same : (old new : Tells) → new ≡ old → HostsGoOn old new
goes_on_same old new e = subst (HostsGoOn old) (sym e) (goes_on_itself old)

-- on these records the first k steps were answered so, and led there
pub record LedOn (old : Tells) (steps : List Step) (k : ℕ) (told : List Reply) (state : State) (now : Tells) (logs : Logs) : Type 0 where
  pub begins : Extends old logs
  pub goes_on : (more : List Step) → host_play [] (world_of run_start old logs) (take k steps ++ more) ≡ host_play told (world_of state now logs) more

-- on whichever records, while no count of faults fell
pub record LedAmong (old : Tells) (steps : List Step) (k : ℕ) (told : List Reply) (state : State) (now : Tells) : Type 0 where
  pub led : (logs : Logs) → Extends now logs → LedOn old steps k told state now logs
  pub faults : (end : HostEnd) → faults_of old end ≤ faults_of now end
  pub supplied : AreSuppliedSince old now

pub led_none : (old : Tells) (steps : List Step) → LedAmong old steps 0 [] run_start old
led_none old steps = record { led = λ logs e. record { begins = e; goes_on = λ more. refl }; faults = λ end. omega arith; supplied = supplied_since_itself old }

-- WHERE THE MACHINE HALTS

-- what it knows of a host writer, by whether that is gone
same_gone : (d e : Duty) (w : WriterTells) (log : List WriterSaid) → is_ended d ≡ is_ended e → writer_of d w log ≡ writer_of e w log
same_gone Ended Ended w log e = refl
same_gone Ended Unused w log e = cc
same_gone Ended (Serves s) w log e = cc
same_gone Unused Ended w log e = cc
same_gone Unused Unused w log e = refl
same_gone Unused (Serves s) w log e = refl
same_gone (Serves s) Ended w log e = cc
same_gone (Serves s) Unused w log e = refl
same_gone (Serves s) (Serves t) w log e = refl

first_of : (ps : List Producer) → first_duty ps ≡ (get_or ps 0 no_producer).duty
first_of [] = refl
first_of (p ∷ ps) = refl

rest_of : (ps : List Producer) (n : ℕ) → (get_or (drop 1 ps) n no_producer).duty ≡ (get_or ps (suc n) no_producer).duty
rest_of [] n = refl
rest_of (p ∷ ps) n = refl

-- and of all of them
all_gone : (ps qs : List Producer) (ws : List WriterTells) (logs : List (List WriterSaid)) → ((n : ℕ) → (writer_in (writers_from ps ws logs) n).ended ≡ is_ended (get_or qs n no_producer).duty) → writers_from ps ws logs ≡ writers_from qs ws logs
all_gone ps qs [] logs h = refl
all_gone ps qs (w ∷ ws) logs h =
    ap (λ x. x ∷ writers_from (drop 1 ps) ws (drop 1 logs)) (same_gone (first_duty ps) (first_duty qs) w (first_log logs) (h 0 ∙ ap is_ended (sym (first_of qs))))
    ∙ ap (λ xs. writer_of (first_duty qs) w (first_log logs) ∷ xs) (all_gone (drop 1 ps) (drop 1 qs) ws (drop 1 logs) (λ n. h (suc n) ∙ ap is_ended (sym (rest_of qs n))))

-- where the machine halts in these steps, host writers tell that they are gone as its state has it
abbrev pub WritersGone : World → List Step → Type 0
WritersGone first steps =
    (replies : List Reply) (stop : Stop) (writers : List Writer) (readers : List Reader) → host_play [] first steps ≡ Halts replies stop writers readers → EndsExactly (halted_in first steps) writers

-- so what they tell in a store's state there they tell in the machine's
module _ (first : World) (steps : List Step) (gone : WritersGone first steps) (told : List Reply) (stop : Stop) (new : Tells) (state : State) (e : StopsWith first steps told stop new state) where
  same_there : (world_spent state new).writers ≡ (world_spent (halted_in first steps) new).writers
  same_there = all_gone state.producers (halted_in first steps).producers new.writers (saids new).writers (gone told stop _ _ e)

  halts_there : HaltsBy first steps told new (Some stop)
  halts_there = e ∙ ap (λ ws. Halts told stop ws (world_spent state new).readers) same_there

-- one step more, which is answered or stops the run
module _ (old now new : Tells) (steps : List Step) (k : ℕ) (step : Step) (told : List Reply) (state next : State) (at : IsAt steps k step) (l : LedAmong old steps k told state now) where
  pub led_more : (reply : Reply) → Does state next now new (Ok reply) (λ w. outcome_of_step w step) → LedAmong old steps (k + 1) (told ++ reply ∷ []) next new
  led_more reply d = record {
    led = λ logs e.
        let before = l.led logs (d.begins logs e) in
        record {
          begins = before.begins;
          goes_on = λ more.
              let cut : take (k + 1) steps ++ more ≡ take k steps ++ step ∷ more = ap (λ t. t ++ more) (take-at steps k step at) ∙ append_assoc (take k steps) (step ∷ []) more in
              ap (host_play [] (world_of run_start old logs)) cut ∙ before.goes_on (step ∷ more)
              ∙ ap (λ (o : Outcome). after_host_step told o (λ told' world'. host_play told' world' more)) (d.gives logs e);
        };
    faults = λ end. le_trans (l.faults end) (d.faults end);
    supplied = d.supplied old l.supplied;
  }

  halts_with : (stop : Stop) → Does state next now new (Err (Some stop)) (λ w. outcome_of_step w step) → StopsWith (start_among old new) steps told stop new next
  halts_with stop d =
      let logs = saids new in
      let rest = drop (suc k) steps in
      let e = extends_self new in
      let cut : steps ≡ take k steps ++ step ∷ rest = split_at steps k step at.inside ∙ ap (λ s. take k steps ++ s ∷ rest) at.is in
      ap (host_play [] (start_among old new)) cut ∙ (l.led logs (d.begins logs e)).goes_on (step ∷ rest)
      ∙ ap (λ (o : Outcome). after_host_step told o (λ told' world'. host_play told' world' rest)) (d.gives logs e)

  halts_by : WritersGone (start_among old new) steps → (stop : Option Stop) → Does state next now new (Err stop) (λ w. outcome_of_step w step) → HaltsBy (start_among old new) steps told new stop
  halts_by gone None d = tt
  halts_by gone (Some stop) d = halts_there (start_among old new) steps gone told stop new next (halts_with stop d)

  raised_by : (cause : RunCause) → Caused (Err (stop_of cause)) now new → Raised old new cause
  raised_by (causes.HostFailed end) c = rose_more (faults_of old end) (faults_of now end) (faults_of new end) (l.faults end) c
  raised_by _ c = tt

  -- the machine's world before this step, on all records that are told in the end
  abbrev before_it : World
  before_it = world_of state now (saids new)

  led_before : (stop : Option Stop) → length told ≡ k → Does state next now new (Err stop) (λ w. outcome_of_step w step) → host_play [] (start_among old new) (take (length told) steps) ≡ Ends told before_it
  led_before stop n d =
      ap (λ m. host_play [] (start_among old new) (take m steps)) n
      ∙ ap (host_play [] (start_among old new)) (sym (append-nil (take k steps)))
      ∙ (l.led (saids new) (d.begins (saids new) (extends_self new))).goes_on []

  -- at a bad item guests move nothing
  stays_there : (s : ℕ) (a : AsksBadItem before_it step s) → state.trapped ≡ false → StaysThere before_it step s a
  stays_there s (ByGuest g) t = ap (λ (r : Reaction). r.state) (bad-traps state step s t g.asks)
  stays_there s (InCall c) t = tt
  stays_there s (InDrive d) t = tt

  -- a step that stops at a bad item asks for it, and nothing moves
  asking : WritersGone (start_among old new) steps → (cause : RunCause) → length told ≡ k → state.trapped ≡ false → Does state next now new (Err (stop_of cause)) (λ w. outcome_of_step w step) → StopsAsking (start_among old new) steps told new cause
  asking gone (causes.BadItem s) n t d =
      let gives = d.gives (saids new) (extends_self new) in
      let a = stops-asks before_it step t s _ _ gives in
      let same = sym gives ∙ asks-stops before_it step t s a in
      let there = same_there (start_among old new) steps gone told (BadItem s) new next (halts_with (BadItem s) d) in
      let stood : (world_spent next new).writers ≡ (stands_at before_it step s a).writers = cc in
      record {
        asks = record {
          world = before_it;
          before = led_before (Some (BadItem s)) n d;
          step = step;
          next = ap (slice_get steps) n ∙ slice_get-get_or steps k step at.inside ∙ ap Some at.is;
          bad = a;
        };
        stays = stays_there s a t;
        writers = sym there ∙ stood;
        readers = cc;
      }
  asking gone _ n t d = tt

  -- in a step that runs out of memory guests do not meet at a bad item
  unmet_there : (cause : RunCause) → length told ≡ k → (cause ≡ causes.OutOfMemory → (s : ℕ) → GuestAsksBad (lone state) step s → ⊥) → RunsOutUnmet before_it steps told cause
  unmet_there causes.OutOfMemory n m = λ other s next g.
      let here : slice_get steps (length told) ≡ Some step = ap (slice_get steps) n ∙ slice_get-get_or steps k step at.inside ∙ ap Some at.is in
      let both = sym next ∙ here in
      let same : other ≡ step = cc in
      let met = subst (λ x. GuestAsksBad before_it x s) same g in
      m refl s (record { asks = met.asks; unhosted = met.unhosted })
  unmet_there (causes.BadItem s) n m = tt
  unmet_there (causes.HostFailed end) n m = tt
  unmet_there (causes.HostBroke end) n m = tt

  -- where memory had run out, guests did not meet at a bad item
  abbrev pub NoneMet : RunCause → Type 0
  NoneMet cause = cause ≡ causes.OutOfMemory → (s : ℕ) → GuestAsksBad (lone state) step s → ⊥

  -- a step that stops a run stops it so
  pub stops_among : WritersGone (start_among old new) steps → (cause : RunCause) → length told ≡ k → state.trapped ≡ false → NoneMet cause → Does state next now new (Err (stop_of cause)) (λ w. outcome_of_step w step) → StopsAmong old new steps told cause
  stops_among gone cause n t m d = record {
    world = before_it;
    before = led_before (stop_of cause) n d;
    halts = halts_by gone (stop_of cause) d;
    raised = raised_by cause d.cause;
    asks = asking gone cause n t d;
    unmet = unmet_there cause n m;
  }

-- what host ends tell where the step of number k found no memory
module _ (old now new : Tells) (steps : List Step) (k : ℕ) (step : Step) (told : List Reply) (state next : State) (at : IsAt steps k step) (l : LedAmong old steps k told state now) (n : length told ≡ k) (gone : (tells : Tells) → WritersGone (start_among old tells) steps) where
  abbrev among : World
  among = start_among old new

  -- the replies so far, on the records that are told in the end
  replied : Extends now (saids new) → host_play [] among (take (length told) steps) ≡ Ends told (world_of state now (saids new))
  replied e =
      ap (λ m. host_play [] among (take m steps)) n
      ∙ ap (host_play [] among) (sym (append-nil (take k steps)))
      ∙ (l.led (saids new) e).goes_on []

  untouched : new ≡ now → host_play [] among (take (length told) steps) ≡ Ends told (world_spent state new)
  untouched same = replied (subst (λ t. Extends now (saids t)) (sym same) (extends_self now)) ∙ ap (λ t. Ends told (world_of state t (saids new))) (sym same)

  -- had the host end that was polled failed
  polled_there : RunsOutInPoll state now new (λ w. outcome_of_step w step) → RunsOutThere old new steps told
  polled_there w =
      InPoll w.end w.more w.fails (halts_by old now w.more steps k step told state w.state at l (gone w.more) (Some (HostFailed w.end)) w.does)

  pub wants_there : Extends now (saids new) → RunsOutStep state next now new step → RunsOutThere old new steps told
  wants_there e (Polling (InAPoll w)) = polled_there w
  wants_there e (Polling (InADrive s m r drives b)) = BeforeOffer (record {
    world = world_of state now (saids new);
    before = replied e;
    step = step;
    next = ap (slice_get steps) n ∙ slice_get-get_or steps k step at.inside ∙ ap Some at.is;
    drives = drives;
    stream = s;
    writer = m;
    reader = r;
    state = b.state;
    behind = b.does.gives (saids new) (extends_self new);
    holds = b.holds;
  })
  wants_there e (Untouched s same) = Before state (untouched same)
  wants_there e (Unkept reply d) =
      let more = led_more old now new steps k step told state next at l reply d in
      Behind reply next
      (ap (λ m. host_play [] among (take (m + 1) steps)) n
      ∙ ap (host_play [] among) (sym (append-nil (take (k + 1) steps)))
      ∙ (more.led (saids new) (extends_self new)).goes_on [])

  pub out_of_memory_there : (cause : RunCause) → Extends now (saids new) → LeavesOutOfMemory state next now new step cause → StopsOutOfMemory old new steps told (stop_of cause)
  out_of_memory_there causes.OutOfMemory e w = wants_there e w
  out_of_memory_there (causes.HostFailed end) e w = tt
  out_of_memory_there (causes.HostBroke end) e w = tt
  out_of_memory_there (causes.BadItem s) e w = tt

-- the records of before stay in front
pub begins_among : (old new : Tells) (steps : List Step) (k : ℕ) (told : List Reply) (state : State) (now : Tells) → LedAmong old steps k told state now → Extends now (saids new) → Extends old (saids new)
begins_among old new steps k told state now l e = (l.led (saids new) e).begins

-- all steps are answered
pub runs_to : (old new : Tells) (steps : List Step) (k : ℕ) (told : List Reply) (state : State) → length steps ≤ k → LedAmong old steps k told state new → RunsTo (start_among old new) steps told state new
runs_to old new steps k told state n l =
    let all : take k steps ++ [] ≡ steps = append-nil (take k steps) ∙ take_all k steps n in
    ap (host_play [] (start_among old new)) (sym all) ∙ (l.led (saids new) (extends_self new)).goes_on []

-- a run whose counts find no memory stops behind its last step
pub stops_behind : (old new : Tells) (steps : List Step) (told : List Reply) (state : State) → length told ≡ length steps → RunsTo (start_among old new) steps told state new → StopsAmong old new steps told causes.OutOfMemory
stops_behind old new steps told state n r = record {
  world = world_of state new (saids new);
  before = ap (host_play [] (start_among old new)) (take_all (length told) steps (omega (arith, n))) ∙ r;
  halts = tt;
  raised = tt;
  asks = tt;
  unmet = λ step s next g. let inside = slice_get_within steps (length told) step next in absurd (omega (arith, inside, n));
}
