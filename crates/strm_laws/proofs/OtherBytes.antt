-- In each step of every run the bytes that it puts lie there, and those that it does not touch stay.
use Rattle.std.proofs.Common.{ℕ, List, [], ◌∷◌, ◌++◌, arith}
use Rattle.strm_machine.specs.Words.{act_of, empty}
use Rattle.strm_machine.specs.declared.limits.Limits.{Limits}
use Rattle.strm_machine.specs.declared.steps.Step.{Step}
use Rattle.strm_machine.specs.Moments.{moment_of}
use Rattle.strm_machine.specs.Untouched.{LieThere, StaysAside}
use Rattle.strm_machine.proofs.UntouchedLemmas.{reaction-stays}
use Rattle.strm_machine.proofs.PutLemmas.{reaction-there}
use Rattle.strm_laws.specs.Conservation.{state_after_steps}
use Rattle.strm_laws.specs.Laws.{AreSteps}
use Rattle.strm_laws.proofs.LawfulRuns.{IsReady-empty, ready_after, sound}

pub other_bytes_stay : (tag : ℕ) (limits : Limits) (run : List Step) (step : Step) → AreSteps (run ++ step ∷ []) → StaysAside (moment_of (state_after_steps (empty tag limits) run) step)
other_bytes_stay tag limits run step a =
    let end = state_after_steps (empty tag limits) run in
    let ready = ready_after (empty tag limits) run (step ∷ []) (IsReady-empty tag limits (run ++ step ∷ []) a) in
    reaction-stays end (act_of step) ready.lawful.sound (λ s. omega (arith, ready.room s))

pub bytes_are_put : (tag : ℕ) (limits : Limits) (run : List Step) (step : Step) → LieThere (moment_of (state_after_steps (empty tag limits) run) step)
bytes_are_put tag limits run step = reaction-there (state_after_steps (empty tag limits) run) (act_of step) (sound tag limits run)
