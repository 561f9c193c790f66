-- Where a run stops at a bad item, and where it does not.
use Rattle.std.specs.Prelude.{IfOk, IfErr, IsErr, slice_get}
use Rattle.std.proofs.Common.{◌≡◌, ℕ, ◌<◌, ◌≤◌, Result, Ok, Err, List, [], ◌∷◌, ◌++◌, length, take, drop, suc, Some, refl, sym, ap, subst, ◌∙◌, ⊎_elim, arith}
use Rattle.std.proofs.Math.Seq.{split_at}
use Rattle.std.proofs.lemmas.Bool.{cases_lt}
use Rattle.std.proofs.lemmas.Option.{slice_get_within, get_or_from_slice_get, slice_get-get_or}
use Rattle.std.proofs.lemmas.List.{get_or-take, take-take, length-take}
use Rattle.strm_buffers.specs.Tells.{Tells}
use Rattle.strm_machine.specs.declared.steps.Step.{Step}
use Rattle.strm_machine.specs.declared.replies.Reply.{Reply}
use Rattle.strm_machine.specs.declared.stops.Stop.{Stop}
use Rattle.strm_machine.specs.declared.stops.Stop.TheVariants.{BadItem}
use Rattle.strm_host_machine.specs.Ends.{Writer, Reader}
use Rattle.strm_host_machine.specs.World.{World}
use Rattle.strm_host_machine.specs.Outcomes.{Outcome, Goes, Stops, Stuck, stops}
use Rattle.strm_host_machine.specs.Steps.{outcome_of_step}
use Rattle.strm_host_machine.specs.HostPlays.{host_play, after_host_step, Ends, Halts}
use Rattle.strm_host_machine.specs.Asking.{GuestAsksBad, AsksBadItem, ByGuest, InCall, InDrive, stands_at}
use Rattle.strm_host_machine.specs.Does.{RunsTo}
use Rattle.strm_host_machine.proofs.AskingLemmas.{asks-stops}
use Rattle.strm_machine.specs.declared.streams.HostEnd.TheVariants as ends
use Rattle.strm_session.specs.Records.{NoneRose, ObeyRules}
use Rattle.strm_session.specs.Runs.{start_among, AsksBad, AsksItems, RunsOutBy, RunsOutUnmet, StopsAmong, StopsIn, HasStopped, IsDecided}
use Rattle.strm_session.specs.declared.runs.RunCause.{RunCause}
use Rattle.strm_session.specs.declared.runs.RunStop.{RunStop}
use Rattle.strm_session.specs.declared.runs.Transcript.{Transcript}
use Rattle.strm_session.specs.declared.runs.RunCause.TheVariants as causes
use Rattle.strm_session.proofs.RunningLemmas.{IsRunning, Running, step-runs}

-- a play that ends leaves a store that is not trapped, and goes on from there
record Leads (told : List Reply) (world : World) (steps : List Step) (all : List Reply) (end : World) : Type 0 where
  goes_on : (more : List Step) → host_play told world (steps ++ more) ≡ host_play all end more
  running : IsRunning end

-- one step
one_step : (told : List Reply) (world : World) (step : Step) (o : Outcome) (more : List Step) → outcome_of_step world step ≡ o → host_play told world (step ∷ more) ≡ after_host_step told o (λ told' world'. host_play told' world' more)
one_step told world step o more e = ap (λ p. after_host_step told p (λ told' world'. host_play told' world' more)) e

-- what the rest of a play does
abbrev LeadsOn : List Step → List Reply → World → Type 0
LeadsOn steps all end = (told : List Reply) (world : World) → IsRunning world → host_play told world steps ≡ Ends all end → Leads told world steps all end

leads_by : (told : List Reply) (world : World) (step : Step) (steps : List Step) (all : List Reply) (end : World) → IsRunning world → host_play told world (step ∷ steps) ≡ Ends all end → LeadsOn steps all end
    → (o : Outcome) → outcome_of_step world step ≡ o → Leads told world (step ∷ steps) all end
leads_by told world step steps all end t e on (Goes reply next) f =
    let rest = on (told ++ reply ∷ []) next (subst Running f (step-runs world step t)) (sym (one_step told world step (Goes reply next) steps f) ∙ e) in
    record { goes_on = λ more. one_step told world step (Goes reply next) (steps ++ more) f ∙ rest.goes_on more; running = rest.running }
leads_by told world step steps all end t e on (Stops stop writers readers) f = absurd (let wrong = sym (one_step told world step (Stops stop writers readers) steps f) ∙ e in cc)
leads_by told world step steps all end t e on Stuck f = absurd (let wrong = sym (one_step told world step Stuck steps f) ∙ e in cc)

leads : (steps : List Step) (all : List Reply) (end : World) → LeadsOn steps all end
leads [] all end told world t e =
    let same : world ≡ end = cc in
    let replies : told ≡ all = cc in
    record { goes_on = λ more. ap (λ r. host_play r world more) replies ∙ ap (λ w. host_play all w more) same; running = subst IsRunning same t }
leads (step ∷ steps) all end told world t e = leads_by told world step steps all end t e (leads steps all end) (outcome_of_step world step) refl

-- the machine halts where a bad item is asked for
pub asks-halts : (first : World) → IsRunning first → (steps : List Step) (told : List Reply) (s : ℕ) (a : AsksBad first steps told s)
    → host_play [] first steps ≡ Halts told (BadItem s) (stands_at a.world a.step s a.bad).writers (stands_at a.world a.step s a.bad).readers
asks-halts first t steps told s a =
    let k = length told in
    let rest = drop (suc k) steps in
    let cut : steps ≡ take k steps ++ a.step ∷ rest = split_at steps k a.step (slice_get_within steps k a.step a.next) ∙ ap (λ step. take k steps ++ step ∷ rest) (get_or_from_slice_get steps k a.step a.step a.next) in
    let led = leads (take k steps) told a.world [] first t a.before in
    ap (host_play [] first) cut ∙ led.goes_on (a.step ∷ rest)
    ∙ one_step told a.world a.step (stops (BadItem s) (stands_at a.world a.step s a.bad)) rest (asks-stops a.world a.step led.running s a.bad)

-- the first n steps ask for what all of them do before
asks-take : (first : World) (steps : List Step) (n : ℕ) (told : List Reply) (s : ℕ) → length told < n → AsksBad first steps told s → AsksBad first (take n steps) told s
asks-take first steps n told s l a =
    let k = length told in
    let front = take n steps in
    let inside = slice_get_within steps k a.step a.next in
    let here : k < length front = omega (arith, length-take n steps, inside, l) in
    record {
      world = a.world;
      before = ap (host_play [] first) (take-take k n steps (omega (arith, l))) ∙ a.before;
      step = a.step;
      next = slice_get-get_or front k a.step here ∙ ap Some (get_or-take n steps k a.step l ∙ get_or_from_slice_get steps k a.step a.step a.next);
      bad = a.bad;
    }

-- a play that halts neither ends nor halts elsewhere
halts-ends : (told all : List Reply) (stop : Stop) (writers : List Writer) (readers : List Reader) (end : World) → Halts told stop writers readers ≡ Ends all end → ⊥
halts-ends told all stop writers readers end e = cc

module _ (old new : Tells) (steps : List Step) where
  abbrev first : World
  first = start_among old new

  -- the machine came there behind these replies
  abbrev LedTo : List Reply → World → Type 0
  LedTo replies world = host_play [] first (take (length replies) steps) ≡ Ends replies world

  -- guests meet at a bad item where memory had not run out
  met-before : (replies told : List Reply) (s : ℕ) (a : AsksBad first steps told s) (g : GuestAsksBad a.world a.step s) (world : World) → LedTo replies world → RunsOutUnmet world steps replies causes.OutOfMemory → length replies ≤ length told → length replies < length told
  met-before replies told s a g world before unmet l =
      ⊎_elim
      (λ m. m)
      (λ m.
      let same : length told ≡ length replies = omega (arith, l, m) in
      let ends : Ends told a.world ≡ Ends replies world = sym a.before ∙ ap (λ n. host_play [] first (take n steps)) same ∙ before in
      let there : a.world ≡ world = cc in
      absurd (unmet a.step s (ap (slice_get steps) (sym same) ∙ a.next) (subst (λ w. GuestAsksBad w a.step s) there g)))
      (cases_lt (length replies) (length told))

  wants-by : (replies told : List Reply) (s : ℕ) (a : AsksBad first steps told s) (bad : AsksBadItem a.world a.step s) (w : World) → LedTo replies w → RunsOutUnmet w steps replies causes.OutOfMemory → length replies ≤ length told → RunsOutBy a.world a.step s bad (length replies) (length told)
  wants-by replies told s a (ByGuest g) world before unmet l = met-before replies told s a g world before unmet l
  wants-by replies told s a (InCall c) world before unmet l = l
  wants-by replies told s a (InDrive d) world before unmet l = l

  -- a bad item stops a run there, or memory had run out there or before
  pub stops-in : (replies : List Reply) (cause : RunCause) (told : List Reply) (s : ℕ) (a : AsksBad first steps told s) → StopsAmong old new steps replies cause → StopsIn first steps told s a replies cause
  stops-in replies (causes.BadItem stream) told s a b =
      let e = sym b.halts ∙ asks-halts first refl steps told s a in
      (cc, cc)
  stops-in replies (causes.HostFailed end) told s a b = let e = sym b.halts ∙ asks-halts first refl steps told s a in cc
  stops-in replies (causes.HostBroke end) told s a b = let e = sym b.halts ∙ asks-halts first refl steps told s a in cc
  stops-in replies causes.OutOfMemory told s a b =
      ⊎_elim
      (λ l.
      let front = take (length replies) steps in
      let halts = asks-halts first refl front told s (asks-take first steps (length replies) told s l a) in
      absurd (halts-ends told replies (BadItem s) _ _ b.world (sym halts ∙ b.before)))
      (λ l. wants-by replies told s a a.bad b.world b.before b.unmet l)
      (cases_lt (length told) (length replies))

  -- of what a run answers
  abbrev Ended : Result Transcript RunStop → Type 0
  Ended r = IfOk r (λ t. RunsTo first steps t.replies t.store new)

  pub answers-in : (r : Result Transcript RunStop) → Ended r → IfErr r (λ stop. StopsAmong old new steps stop.replies stop.cause)
      → (told : List Reply) (s : ℕ) (a : AsksBad first steps told s) → IsErr r × IfErr r (λ stop. StopsIn first steps told s a stop.replies stop.cause)
  answers-in (Ok t) ok stop told s a = absurd (halts-ends told t.replies (BadItem s) _ _ _ (sym (asks-halts first refl steps told s a) ∙ ok))
  answers-in (Err e) ok stop told s a = (refl, stops-in e.replies e.cause told s a stop)

-- a run that stops where no host end failed, each obeyed its rules, and each item asked for is one, ran out of memory
pub only_memory : (old new : Tells) (steps : List Step) (told : List Reply) (cause : RunCause) → HasStopped old new steps told cause → NoneRose old new → ObeyRules old new → AsksItems (start_among old new) steps → cause ≡ causes.OutOfMemory
only_memory old new steps told (causes.HostFailed end) h none obey items = absurd (none end h.stops.raised)
only_memory old new steps told (causes.HostBroke (ends.Writer n)) h none obey items =
    let last = h.by_record in
    let good = obey.writers n last.1 [] (last.0, last.2) in
    absurd (let wrong = sym good ∙ last.3.1 in cc)
only_memory old new steps told (causes.HostBroke (ends.Reader r)) h none obey items =
    let last = h.by_record in
    let good = obey.readers r last.1 [] (last.0, last.2) in
    absurd (let wrong = sym good ∙ last.3.1 in cc)
only_memory old new steps told (causes.BadItem stream) h none obey items = absurd (items told stream h.stops.asks.asks)
only_memory old new steps told causes.OutOfMemory h none obey items = refl

-- how a run comes out
pub decided : (old new : Tells) (steps : List Step) (r : Result Transcript RunStop) → IfOk r (λ t. RunsTo (start_among old new) steps t.replies t.store new) → IfErr r (λ stop. HasStopped old new steps stop.replies stop.cause) → IsDecided old new steps r
decided old new steps (Ok t) ok stop = record {
  complete = λ none obey items. tt;
  bad_item = λ told s a. answers-in old new steps (Ok t) ok tt told s a;
}
decided old new steps (Err e) ok stop = record {
  complete = λ none obey items. only_memory old new steps e.replies e.cause stop none obey items;
  bad_item = λ told s a. answers-in old new steps (Err e) tt stop.stops told s a;
}
