-- What the laws of every run say of one that came to its end.
use Rattle.std.proofs.Common.{◌≡◌, ℕ, ◌≤◌, List, [], ◌∷◌, ◌++◌, length, take, refl, sym, subst, append_assoc, arith}
use Rattle.std.specs.Prelude.{All}
use Rattle.std.proofs.lemmas.List.{take_at, length-take}
use Rattle.std.proofs.lemmas.List.Elements.{All-nil, All-cons}
use Rattle.strm_machine.specs.State.{State}
use Rattle.strm_laws.specs.Starts.{run_start}
use Rattle.strm_machine.specs.Reactions.{react}
use Rattle.strm_machine.specs.Plays.{play, Ends}
use Rattle.strm_machine.specs.declared.steps.Step.{Step}
use Rattle.strm_machine.specs.declared.replies.Reply.{Reply}
use Rattle.strm_machine.specs.Moments.{Moment, moment_of}
use Rattle.strm_laws.specs.Conservation.{moments, state_after_steps}
use Rattle.strm_laws.specs.Laws.{StepHasBytes, AreSteps}
use Rattle.strm_machine.specs.Untouched.{StaysAside, LieThere}
use Rattle.strm_laws.proofs.LawfulRuns.{AreSteps-take}
use Rattle.strm_laws.proofs.Replies.{play-ends}
use Rattle.strm_session.specs.Runs.{HasLaws, IsRunKept}

-- the laws of whichever steps
abbrev pub LawsHold : Type 0
LawsHold = (steps : List Step) → AreSteps steps → HasLaws (moments run_start steps) (state_after_steps run_start steps)

-- a law of one step behind others
abbrev pub StepHolds : (Moment → Type 0) → Type 0
StepHolds P = (steps : List Step) (step : Step) → AreSteps (steps ++ step ∷ []) → P (moment_of (state_after_steps run_start steps) step)

AreSteps-before : (xs ys : List Step) → AreSteps (xs ++ ys) → AreSteps xs
AreSteps-before xs ys a = subst AreSteps (take_at xs ys (length xs) refl) (AreSteps-take (xs ++ ys) (length xs) a)

state_after_steps-push : (state : State) (front : List Step) (step : Step) → state_after_steps state (front ++ step ∷ []) ≡ (react (state_after_steps state front) step).state
state_after_steps-push state [] step = refl
state_after_steps-push state (first ∷ front) step = state_after_steps-push (react state first).state front step

-- each moment of steps behind others
each_from : (P : Moment → Type 0) → StepHolds P → (front steps : List Step) → AreSteps (front ++ steps) → All P (moments (state_after_steps run_start front) steps)
each_from P each front [] a = All-nil P
each_from P each front (step ∷ more) a =
    let longer : AreSteps ((front ++ step ∷ []) ++ more) = subst AreSteps (sym (append_assoc front (step ∷ []) more)) a in
    let here = each front step (AreSteps-before (front ++ step ∷ []) more longer) in
    let rest = each_from P each (front ++ step ∷ []) more longer in
    All-cons P (moment_of (state_after_steps run_start front) step) (moments (react (state_after_steps run_start front) step).state more) here
    (subst (λ state. All P (moments state more)) (state_after_steps-push run_start front step) rest)

pub run_kept : LawsHold → StepHolds StaysAside → StepHolds LieThere → (steps : List Step) (replies : List Reply) (state : State) → length steps ≤ 4294967295 → All StepHasBytes steps → play [] run_start steps ≡ Ends replies state → IsRunKept steps replies state
run_kept laws aside put steps replies state few bytes e =
    let p = play-ends [] run_start steps replies state e in
    let a : AreSteps steps = record { few = few; bytes = bytes } in
    record {
      told = p.1;
      ends = p.0;
      laws = λ n. laws (take n steps) (AreSteps-take steps n a);
      aside = each_from StaysAside aside [] steps a;
      put = each_from LieThere put [] steps a;
    }

-- the same of the first of the steps
pub front_kept : LawsHold → StepHolds StaysAside → StepHolds LieThere → (steps : List Step) (n : ℕ) (replies : List Reply) (state : State) → length steps ≤ 4294967295 → All StepHasBytes (take n steps) → play [] run_start (take n steps) ≡ Ends replies state → IsRunKept (take n steps) replies state
front_kept laws aside put steps n replies state few bytes e =
    run_kept laws aside put (take n steps) replies state (omega (arith, length-take n steps)) bytes e
