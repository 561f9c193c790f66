-- From moments to runs: where each moment does to a stream what its course says, the codes of a run are those
-- of its events.
use Rattle.std.proofs.Common.{◌≡◌, ℕ, ◌<◌, ◌≤◌, List, [], ◌∷◌, ◌++◌, length, refl, sym, ap, subst, ◌∙◌, inl, inr}
use Rattle.std.proofs.lemmas.Bool.{cases_lt}
use Rattle.std.proofs.lemmas.List.{append_assoc}
use Rattle.strm_host_machine.specs.World.{World, stream_in}
use Rattle.strm_host_laws.specs.HostMoments.{HostMoment, end_world}
use Rattle.strm_host_machine.specs.Courses.{StreamEvent, Course, fresh_course, answers_of, course_by, codes_from, codes_of}
use Rattle.strm_host_laws.specs.StreamEvents.{events_in, events, answered_in, codes_answered}
use Rattle.strm_host_laws.proofs.Tracing.{course_of}
use Rattle.strm_host_laws.specs.Isolation.{AnswersByItself}

-- a stream's course after these events
abbrev pub course_after : Course → List StreamEvent → Course
course_after course [] = course
course_after course (event ∷ more) = course_after (course_by event course).course more

abbrev pub streams_in : World → ℕ
streams_in world = length world.state.streams

-- what a moment does to a stream that was made before
pub record GoesOnBySelf (s : ℕ) (m : HostMoment) : Type 0 where
  pub answers : answered_in s m ≡ codes_from (course_of s m.before) (events_in s m)
  pub course : course_of s m.after ≡ course_after (course_of s m.before) (events_in s m)
  pub kind : (stream_in m.after s).kind ≡ (stream_in m.before s).kind
  pub made : s < streams_in m.after

-- and to one that it makes
pub record BeginsBySelf (s : ℕ) (m : HostMoment) : Type 0 where
  pub answers : answered_in s m ≡ []
  pub unanswered : codes_from (fresh_course (stream_in m.after s).kind) (events_in s m) ≡ []
  pub course : course_of s m.after ≡ course_after (fresh_course (stream_in m.after s).kind) (events_in s m)

-- and to one that is not made yet
pub record Waits (s : ℕ) (m : HostMoment) : Type 0 where
  pub answers : answered_in s m ≡ []
  pub nothing : events_in s m ≡ []

pub record BySelf (s : ℕ) (m : HostMoment) : Type 0 where
  pub made : s < streams_in m.before → GoesOnBySelf s m
  pub making : streams_in m.before ≤ s → s < streams_in m.after → BeginsBySelf s m
  pub unmade : streams_in m.before ≤ s → streams_in m.after ≤ s → Waits s m

-- moments that follow each other from a world
abbrev pub AllBySelf : ℕ → World → List HostMoment → Type 0
AllBySelf s world [] = Unit {0}
AllBySelf s world (m ∷ more) = (m.before ≡ world) × BySelf s m × AllBySelf s m.after more

course_after-append : (c : Course) (xs ys : List StreamEvent) → course_after c (xs ++ ys) ≡ course_after (course_after c xs) ys
course_after-append c [] ys = refl
course_after-append c (x ∷ xs) ys = course_after-append (course_by x c).course xs ys

codes_from-append : (c : Course) (xs ys : List StreamEvent) → codes_from c (xs ++ ys) ≡ codes_from c xs ++ codes_from (course_after c xs) ys
codes_from-append c [] ys = refl
codes_from-append c (x ∷ xs) ys =
    ap (λ cs. answers_of x c ++ cs) (codes_from-append (course_by x c).course xs ys)
    ∙ sym (append_assoc (answers_of x c) (codes_from (course_by x c).course xs) (codes_from (course_after (course_by x c).course xs) ys))

module _ (s : ℕ) where
  -- of a stream that was made
  abbrev MadeRuns : World → List HostMoment → Type 0
  MadeRuns world all = (codes_answered s all ≡ codes_from (course_of s world) (events s all)) × ((stream_in (end_world world all) s).kind ≡ (stream_in world s).kind)

  pub made-runs : (world : World) (all : List HostMoment) → s < streams_in world → AllBySelf s world all → MadeRuns world all
  made-runs world [] l h = (refl, refl)
  made-runs world (m ∷ more) l h =
      let step = h.1.made (subst (λ (w : World). s < streams_in w) (sym h.0) l) in
      let rest = made-runs m.after more step.made h.2 in (
        ap (λ xs. xs ++ codes_answered s more) (step.answers)
            ∙ ap (λ ys. codes_from (course_of s m.before) (events_in s m) ++ ys) (rest.0 ∙ ap (λ c. codes_from c (events s more)) step.course)
            ∙ sym (codes_from-append (course_of s m.before) (events_in s m) (events s more))
            ∙ ap (λ w. codes_from (course_of s w) (events_in s m ++ events s more)) h.0,
        rest.1 ∙ step.kind ∙ ap (λ w. (stream_in w s).kind) h.0,
      )

  -- of one that is yet to be made
  pub unmade-runs : (world : World) (all : List HostMoment) → streams_in world ≤ s → AllBySelf s world all → AnswersByItself s all (end_world world all)
  unmade-runs world [] l h = refl
  unmade-runs world (m ∷ more) l h =
      let before : streams_in m.before ≤ s = subst (λ (w : World). streams_in w ≤ s) (sym h.0) l in
      elim (cases_lt s (streams_in m.after)) [
        | inl now ↦
            let step = h.1.making before now in
            let rest = made-runs m.after more now h.2 in
            let kind : (stream_in (end_world m.after more) s).kind ≡ (stream_in m.after s).kind = rest.1 in
            ap (λ xs. xs ++ codes_answered s more) step.answers
            ∙ rest.0
            ∙ ap (λ c. codes_from c (events s more)) step.course
            ∙ ap (λ xs. xs ++ codes_from (course_after (fresh_course (stream_in m.after s).kind) (events_in s m)) (events s more)) (sym step.unanswered)
            ∙ sym (codes_from-append (fresh_course (stream_in m.after s).kind) (events_in s m) (events s more))
            ∙ ap (λ k. codes_of k (events_in s m ++ events s more)) (sym kind)
        | inr later ↦
            let step = h.1.unmade before later in
            ap (λ xs. xs ++ codes_answered s more) step.answers
            ∙ unmade-runs m.after more later h.2
            ∙ ap (λ xs. codes_of (stream_in (end_world m.after more) s).kind (xs ++ events s more)) (sym step.nothing)
      ]
