-- Streams are isolated since they were made, in every run in which numbers are given again.
use Rattle.std.proofs.Common.{◌≡◌, ℕ, ◌<◌, Bool, true, false, List, [], ◌∷◌, ◌++◌, map, refl, sym, ap, ◌∙◌, subst, inl, inr, arith}
use Rattle.std.specs.Prelude.{All, if◌then◌else◌}
use Rattle.std.proofs.lemmas.Bool.{cases_lt}
use Rattle.std.proofs.lemmas.List.Elements.{All-nil, All-cons, All-append}
use Rattle.strm_machine.specs.Words.{State, act_of, empty, Moment}
use Rattle.strm_machine.specs.declared.limits.Limits.{Limits}
use Rattle.strm_host_machine.specs.Courses.{fresh_course, codes_from, codes_of}
use Rattle.strm_host_machine.specs.World.{World, stream_in}
use Rattle.strm_host_laws.specs.HostMoments.{HostMoment, end_world}
use Rattle.strm_host_laws.specs.Isolation.{AnswersByItself}
use Rattle.strm_host_laws.specs.StreamEvents.{events}
use Rattle.strm_host_laws.proofs.CourseRuns.{streams_in, BySelf, AllBySelf, made-runs, unmade-runs}
use Rattle.strm_host_laws.proofs.Tracing.{course_of}
use Rattle.strm_place_laws.specs.Isolation.{without_hosts, among_guests, LeavesIt}
use Rattle.strm_place_laws.specs.Lives.{is_made_in, life_behind, life, run_of, end_of_run, CanBeRun}
use Rattle.strm_place_laws.specs.Runs.{Choice, takes, moment_at, moments_at, state_after_choices}
use Rattle.strm_place_laws.proofs.Accounts.{IsReady, IsReady-next, IsReady-empty}
use Rattle.strm_place_laws.proofs.IsolatedSteps.{GoesApart, goes_apart}

-- ## One moment more

push-goes : (s : ℕ) (first : World) (lived : List Moment) (m : Moment) → AllBySelf s first (map among_guests lived) → end_world first (map among_guests lived) ≡ without_hosts m.before → BySelf s (among_guests m)
    → AllBySelf s first (map among_guests (lived ++ m ∷ []))
push-goes s first [] m h e b = (sym e, b, tt)
push-goes s first (x ∷ xs) m h e b = (h.0, h.1, push-goes s (without_hosts x.after) xs m h.2 e b)

push-ends : (first : World) (lived : List Moment) (m : Moment) → end_world first (map among_guests (lived ++ m ∷ [])) ≡ without_hosts m.after
push-ends first [] m = refl
push-ends first (x ∷ xs) m = push-ends (without_hosts x.after) xs m

-- ## The course of a stream

-- from a world where stream s was just made, or is not made yet, these moments lead here, each doing to it what
-- its course says
pub record IsIsolated (s : ℕ) (lived : List Moment) (state : State) : Type 0 where
  pub first : World
  pub fresh : s < streams_in first → course_of s first ≡ fresh_course (stream_in first s).kind
  pub goes : AllBySelf s first (map among_guests lived)
  pub ends : end_world first (map among_guests lived) ≡ without_hosts state
  pub others : All (LeavesIt s) lived

begun : (s : ℕ) (state : State) → (s < streams_in (without_hosts state) → course_of s (without_hosts state) ≡ fresh_course (stream_in (without_hosts state) s).kind) → IsIsolated s [] state
begun s state f = record { first = without_hosts state; fresh = f; goes = tt; ends = refl; others = All-nil (LeavesIt s) }

module _ (s : ℕ) (lived : List Moment) (state : State) (choice : Choice) (a : IsIsolated s lived state) (g : GoesApart state (act_of choice.step) (takes state choice)) where
  abbrev m : Moment
  m = moment_at state choice

  isolated_next : IsIsolated s (if is_made_in s m then [] else lived ++ m ∷ []) (takes state choice).state
  isolated_next = by (is_made_in s m) refl
    where
      by : (b : Bool) → is_made_in s m ≡ b → IsIsolated s (if b then [] else lived ++ m ∷ []) (takes state choice).state
      by true e = begun s (takes state choice).state (λ l. g.begins s e)
      by false e =
          let apart = g.apart s e in
          record {
            first = a.first;
            fresh = a.fresh;
            goes = push-goes s a.first lived m a.goes a.ends apart.by_self;
            ends = push-ends a.first lived m;
            others = All-append (LeavesIt s) lived (m ∷ []) a.others (All-cons (LeavesIt s) m [] apart.leaves (All-nil (LeavesIt s)));
          }

-- ## Runs

isolated_from : (s : ℕ) (lived : List Moment) (state : State) (choices : List Choice) → IsReady state choices → IsIsolated s lived state → IsIsolated s (life_behind s lived (moments_at state choices)) (state_after_choices state choices)
isolated_from s lived state [] h a = a
isolated_from s lived state (choice ∷ more) h a =
    isolated_from s (if is_made_in s (moment_at state choice) then [] else lived ++ moment_at state choice ∷ []) (takes state choice).state more (IsReady-next state choice more h)
    (isolated_next s lived state choice a (goes_apart choice.place state choice.step h.lawful h.held h.free.0 h.among))

-- ## The law

module _ (tag : ℕ) (limits : Limits) (choices : List Choice) (c : CanBeRun tag limits choices) (s : ℕ) where
  abbrev lived : List Moment
  lived = life s (run_of tag limits choices)

  abbrev all : List HostMoment
  all = map among_guests lived

  pub isolated : IsIsolated s lived (end_of_run tag limits choices)
  isolated = isolated_from s [] (empty tag limits) choices (IsReady-empty tag limits choices c) (begun s (empty tag limits) (λ l. absurd (omega (arith, l))))

  pub answers : AnswersByItself s all (without_hosts (end_of_run tag limits choices))
  answers =
      let first = isolated.first in
      subst (AnswersByItself s all) isolated.ends
      (elim (cases_lt s (streams_in first)) [
        | inl l ↦
            let runs = made-runs s first all l isolated.goes in
            runs.0
            ∙ ap (λ course. codes_from course (events s all)) (isolated.fresh l)
            ∙ ap (λ kind. codes_of kind (events s all)) (sym runs.1)
        | inr l ↦ unmade-runs s first all l isolated.goes
      ])
