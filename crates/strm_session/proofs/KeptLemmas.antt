-- What the laws of every run among host ends say of one that came to its end, or stopped.
use Rattle.std.proofs.Common.{◌≡◌, ℕ, ◌≤◌, List, [], length, take, Option, Some, None, subst, arith}
use Rattle.std.proofs.lemmas.List.{length-take, take_all}
use Rattle.std.specs.Prelude.{All}
use Rattle.strm_buffers.specs.Tells.{Tells, HoldsItems}
use Rattle.strm_laws.specs.Laws.{StepHasBytes, AreSteps}
use Rattle.strm_laws.proofs.LawfulRuns.{AreSteps-take}
use Rattle.strm_machine.specs.State.{State}
use Rattle.strm_machine.specs.declared.steps.Step.{Step}
use Rattle.strm_machine.specs.declared.replies.Reply.{Reply}
use Rattle.strm_host_machine.specs.World.{World, writer_at, reader_at}
use Rattle.strm_machine.specs.declared.stops.Stop.{Stop}
use Rattle.strm_host_machine.specs.Ends.{Writer, Reader, writer_in, reader_in}
use Rattle.strm_host_machine.specs.HostPlays.{host_play, Ends, Halts}
use Rattle.strm_host_laws.specs.HostLaws.{ClosesExactly, WriterHalts, ReadersCloseExactly, ReaderHalts}
use Rattle.strm_host_machine.specs.Does.{AreSuppliedSince, world_spent}
use Rattle.strm_host_laws.specs.HostMoments.{HostMoment, host_moments, end_world}
use Rattle.strm_session.specs.Runs.{start_among, HasLawsAmong, HasLawsFirst, IsKeptAmong, IsKeptBefore, DeliversEach, HaltsBy, StopCloses, StopUses, StopsAmong}
use Rattle.strm_session.specs.declared.runs.RunCause.{RunCause}
use Rattle.strm_session.proofs.SuppliedLemmas.{all_supply}

-- the laws of whichever steps from this world
abbrev pub LawsAmong : World → Type 0
LawsAmong first = (steps : List Step) → AreSteps steps → (count : ℕ) → HasLawsFirst count first steps

-- after all their moments
pub all_laws : (first : World) (steps : List Step) → ((count : ℕ) → HasLawsFirst count first steps) → HasLawsAmong first (host_moments first steps) (end_world first (host_moments first steps))
all_laws first steps h =
    let all = host_moments first steps in
    subst (λ (xs : List HostMoment). HasLawsAmong first xs (end_world first xs)) (take_all (length all) all (omega arith)) (h (length all))

-- the moments of a run lead to its end
abbrev pub LeadsAmong : World → Type 0
LeadsAmong first = (steps : List Step) (replies : List Reply) (end : World) → host_play [] first steps ≡ Ends replies end → end_world first (host_moments first steps) ≡ end

-- the first of some steps
pub are_first : (steps : List Step) (n : ℕ) → length steps ≤ 4294967295 → All StepHasBytes (take n steps) → AreSteps (take n steps)
are_first steps n few bytes = record { few = omega (arith, few, length-take n steps); bytes = bytes }

module _ (first : World) (laws : LawsAmong first) (leads : LeadsAmong first) where
  pub kept_among : (steps : List Step) (replies : List Reply) (end : World) → AreSteps steps → host_play [] first steps ≡ Ends replies end → IsKeptAmong first steps end
  kept_among steps replies end a e = record {
    ends = leads steps replies end e;
    laws = λ n count. laws (take n steps) (AreSteps-take steps n a) count;
  }

  pub kept_before : (steps : List Step) (told : List Reply) (world : World) → AreSteps (take (length told) steps) → host_play [] first (take (length told) steps) ≡ Ends told world → IsKeptBefore first steps told
  kept_before steps told world a e = record { world = world; before = e; kept = kept_among (take (length told) steps) told world a e }

-- a run that stops has kept them before
pub stop_kept : (old new : Tells) → LawsAmong (start_among old new) → LeadsAmong (start_among old new) → (steps : List Step) (told : List Reply) (cause : RunCause) → AreSteps (take (length told) steps) → StopsAmong old new steps told cause → IsKeptBefore (start_among old new) steps told
stop_kept old new laws leads steps told cause a s = kept_before (start_among old new) laws leads steps told s.world a s.before

-- what each host writer produced is delivered, since what it held and what it recorded are items
pub delivers_each : (old new : Tells) (steps : List Step) (state : State) → IsKeptAmong (start_among old new) steps (world_spent state new) → All HoldsItems old.writers → AreSuppliedSince old new → DeliversEach (start_among old new) steps (world_spent state new)
delivers_each old new steps state k h a s =
    let first = start_among old new in
    let laws = subst (λ (xs : List Step). HasLawsAmong first (host_moments first xs) (end_world first (host_moments first xs))) (take_all (length steps) steps (omega arith)) (all_laws first (take (length steps) steps) (k.laws (length steps))) in
    let now = subst (HasLawsAmong first (host_moments first steps)) k.ends laws in
    now.writers.delivers (all_supply old new state h a (λ n. (now.writers.goes_on n).payload)) s

-- exactly the host ends that became gone were closed, where the machine halts
module _ (first : World) (steps : List Step) where
  -- by the laws of a list of steps
  abbrev pub WritersClose : Type 0
  WritersClose = (replies : List Reply) (stop : Stop) (writers : List Writer) (readers : List Reader) → host_play [] first steps ≡ Halts replies stop writers readers
      → ClosesExactly first (end_world first (host_moments first steps)).state writers

  abbrev pub ReadersClose : Type 0
  ReadersClose = (replies : List Reply) (stop : Stop) (writers : List Writer) (readers : List Reader) → host_play [] first steps ≡ Halts replies stop writers readers
      → ReadersCloseExactly first (end_world first (host_moments first steps)).state readers

  pub stop_closes : WritersClose → ReadersClose → (told : List Reply) (new : Tells) (stop : Option Stop) → HaltsBy first steps told new stop → StopCloses first steps new stop
  stop_closes w r told new None h = tt
  stop_closes w r told new (Some stop) h = (w told stop _ _ h, r told stop _ _ h)

  -- and each used the records of its polls there
  abbrev pub WritersStop : Type 0
  WritersStop = (replies : List Reply) (stop : Stop) (writers : List Writer) (readers : List Reader) → host_play [] first steps ≡ Halts replies stop writers readers
      → (n : ℕ) → WriterHalts (writer_at (end_world first (host_moments first steps)) n) (writer_in writers n)

  abbrev pub ReadersStop : Type 0
  ReadersStop = (replies : List Reply) (stop : Stop) (writers : List Writer) (readers : List Reader) → host_play [] first steps ≡ Halts replies stop writers readers
      → (r : ℕ) → ReaderHalts (reader_at (end_world first (host_moments first steps)) r) (reader_in readers r)

  pub stop_uses : WritersStop → ReadersStop → (told : List Reply) (new : Tells) (stop : Option Stop) → HaltsBy first steps told new stop → StopUses first steps new stop
  stop_uses w r told new None h = tt
  stop_uses w r told new (Some stop) h = (w told stop _ _ h, r told stop _ _ h)
