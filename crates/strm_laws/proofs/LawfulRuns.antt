-- The steps of a run, and what every state of it keeps.
use Rattle.std.proofs.Common.{◌≡◌, ℕ, ◌+◌, ◌*◌, ◌^◌, ◌<◌, List, [], ◌∷◌, ◌++◌, length, take, drop, false, Option, None, Some, refl, sym, subst, arith, inl, inr, length-append}
use Rattle.std.specs.Prelude.{All}
use Rattle.std.proofs.lemmas.Bool.{cases_lt}
use Rattle.std.proofs.lemmas.List.{get_or_past, take-append-drop}
use Rattle.std.proofs.lemmas.List.Elements.{All-nil, All-cons, All-head, All-tail}
use Rattle.strm_machine.specs.Words.{Payload, act_of, State, empty, no_stream, stream_at, OperationIsPlaced, IsSound, sizes_of, both_open, react, received}
use Rattle.strm_machine.specs.declared.limits.Limits.{Limits}
use Rattle.strm_machine.specs.declared.streams.Operation.{Operation}
use Rattle.strm_machine.specs.declared.steps.Step.{Step}
use Rattle.strm_machine.specs.Soundness.{AreUnmoved}
use Rattle.strm_machine.proofs.Lawful.{IsLawful, Reacts}
use Rattle.strm_machine.proofs.LawfulLemmas.{reacts}
use Rattle.strm_machine.proofs.EmptyLemmas.{IsSound-empty}
use Rattle.strm_machine.proofs.SoundLemmas.{placed_at}
use Rattle.strm_machine.proofs.SoundStepLemmas.{reaction-sound}
use Rattle.strm_laws.specs.Conservation.{state_after_steps}
use Rattle.strm_laws.specs.Laws.{StepHasBytes, AreSteps, IsCounted, AreCounted}

-- ## Parts of a run

-- the first steps of a run
pub AreSteps-front : (run more : List Step) → AreSteps (run ++ more) → AreSteps run
AreSteps-front run more a = record {
  few = omega (arith, a.few, length-append run more);
  bytes = All-front run more a.bytes;
}
  where
    All-front : (run more : List Step) → All StepHasBytes (run ++ more) → All StepHasBytes run
    All-front [] more h = All-nil StepHasBytes
    All-front (step ∷ run) more h = All-cons StepHasBytes step run (All-head StepHasBytes step (run ++ more) h) (All-front run more (All-tail StepHasBytes step (run ++ more) h))

-- what can be said of a run can be said of each of its first n steps
pub AreSteps-take : (run : List Step) (n : ℕ) → AreSteps run → AreSteps (take n run)
AreSteps-take run n a = AreSteps-front (take n run) (drop n run) (rw (take-append-drop n run) a)

-- ## Steps that can be made

-- these steps can be made from this state: it is lawful, and its counts have room for their items
pub record IsReady (state : State) (steps : List Step) : Type 0 where
  pub lawful : IsLawful state
  pub bytes : All StepHasBytes steps
  pub room : (s : ℕ) → received s state + 2 ^ 28 * length steps < 2 ^ 128

pub IsLawful-empty : (tag : ℕ) (limits : Limits) → IsLawful (empty tag limits)
IsLawful-empty tag limits = record {
  sound = IsSound-empty tag limits;
  bytes = All-nil _;
  apart = λ s. refl;
  tallies = λ s. record { writing = tt; reading = tt; one = λ k. cc };
}

pub IsReady-empty : (tag : ℕ) (limits : Limits) (run : List Step) → AreSteps run → IsReady (empty tag limits) run
IsReady-empty tag limits run a = record { lawful = IsLawful-empty tag limits; bytes = a.bytes; room = λ s. omega (arith, a.few) }

-- what the first of them does
pub first_reacts : (state : State) (step : Step) (more : List Step) → IsReady state (step ∷ more) → Reacts state (act_of step) (react state step)
first_reacts state step more h = reacts state (act_of step) (All-head StepHasBytes step more h.bytes) h.lawful (λ s. omega (arith, h.room s))

-- and those behind it
pub IsReady-next : (state : State) (step : Step) (more : List Step) → IsReady state (step ∷ more) → IsReady (react state step).state more
IsReady-next state step more h =
    let r = first_reacts state step more h in
    record { lawful = r.lawful; bytes = All-tail StepHasBytes step more h.bytes; room = λ s. omega (arith, h.room s, r.most s) }

-- where a run ends that more steps follow
pub ready_after : (state : State) (run more : List Step) → IsReady state (run ++ more) → IsReady (state_after_steps state run) more
ready_after state [] more h = h
ready_after state (step ∷ run) more h = ready_after (react state step).state run more (IsReady-next state step (run ++ more) h)

-- ## What the state after a run keeps

-- it is sound, after whichever steps
sound_from : (state : State) (run : List Step) → IsSound state → IsSound (state_after_steps state run)
sound_from state [] h = h
sound_from state (step ∷ more) h = sound_from (react state step).state more (reaction-sound state (act_of step) h)

pub sound : (tag : ℕ) (limits : Limits) (run : List Step) → IsSound (state_after_steps (empty tag limits) run)
sound tag limits run = sound_from (empty tag limits) run (IsSound-empty tag limits)

lawful_from : (state : State) (run : List Step) → IsReady state run → IsLawful (state_after_steps state run)
lawful_from state [] h = h.lawful
lawful_from state (step ∷ more) h = lawful_from (react state step).state more (IsReady-next state step more h)

pub lawful : (tag : ℕ) (limits : Limits) (run : List Step) → AreSteps run → IsLawful (state_after_steps (empty tag limits) run)
lawful tag limits run a = lawful_from (empty tag limits) run (IsReady-empty tag limits run a)

pub apart : (tag : ℕ) (limits : Limits) (run : List Step) (s : ℕ) → AreSteps run → both_open (stream_at (state_after_steps (empty tag limits) run) s) ≡ false
apart tag limits run s a = (lawful tag limits run a).apart s

pub unmoved : (tag : ℕ) (limits : Limits) (run : List Step) (s : ℕ) → AreSteps run → AreUnmoved (stream_at (state_after_steps (empty tag limits) run) s)
unmoved tag limits run s a = let tallies = (lawful tag limits run a).tallies s in (tallies.writing, tallies.reading)

OperationIsPlaced-counted : (sizes : List ℕ) (payload : Payload) (o : Option Operation) → OperationIsPlaced sizes payload o → IsCounted o
OperationIsPlaced-counted sizes payload None p = tt
OperationIsPlaced-counted sizes payload (Some o) p = p.counted

-- both operations of a stream, where there is one
pub stream_counted : (state : State) (s : ℕ) → IsSound state → AreCounted (stream_at state s)
stream_counted state s h =
    elim (cases_lt s (length state.streams)) [
      | inl l ↦ let p = placed_at state s l h in (
        OperationIsPlaced-counted (sizes_of state.guests) (stream_at state s).payload (stream_at state s).writer.operation p.writer,
        OperationIsPlaced-counted (sizes_of state.guests) (stream_at state s).payload (stream_at state s).reader.operation p.reader,
      )
      | inr l ↦ subst AreCounted (sym (get_or_past state.streams s no_stream l)) (tt, tt)
    ]

pub counted : (tag : ℕ) (limits : Limits) (run : List Step) (s : ℕ) → AreSteps run → AreCounted (stream_at (state_after_steps (empty tag limits) run) s)
counted tag limits run s a = stream_counted (state_after_steps (empty tag limits) run) s (lawful tag limits run a).sound
