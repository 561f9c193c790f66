-- Steps that are kept stay as they are while chunks are added behind those that are there.
use Rattle.std.proofs.Common.{◌≡◌, ℕ, ◌≤◌, List, [], ◌++◌, length, refl, sym, ap, subst, ◌∙◌, arith}
use Rattle.std.proofs.Math.ListN.{get_or-append}
use Rattle.std.proofs.lemmas.List.{length-append}
use Rattle.strm_machine.specs.declared.short_steps.ShortStep.{ShortStep}
use Rattle.strm_machine.specs.declared.short_steps.ShortStep.TheVariants as short
use Rattle.strm_machine.specs.declared.steps.Step.{Step}
use Rattle.strm_machine.specs.declared.steps.Step.TheVariants as steps
use Rattle.strm_machine.specs.ShortSteps.{whole_step, IsStepPlaced}

pub step_more : (cs more : List (List ℕ)) (s : ShortStep) → IsStepPlaced (length cs) s → whole_step (cs ++ more) s ≡ whole_step cs s
step_more cs more (short.Feed host bytes) h = ap (steps.Feed host) (get_or-append cs more [] bytes h)
step_more cs more (short.Poke guest address bytes) h = ap (steps.Poke guest address) (get_or-append cs more [] bytes h)
step_more cs more _ h = refl

pub step_stays : (m n : ℕ) (s : ShortStep) → m ≤ n → IsStepPlaced m s → IsStepPlaced n s
step_stays m n (short.Feed host bytes) le h = omega (arith, le, h)
step_stays m n (short.Poke guest address bytes) le h = omega (arith, le, h)
step_stays m n _ le h = tt

pub longer : (cs more : List (List ℕ)) → length cs ≤ length (cs ++ more)
longer cs more = let e = length-append cs more in omega (arith, e)

-- a step that was kept before these chunks were
pub step_then : (cs more cs' : List (List ℕ)) (s : ShortStep) (step : Step) → cs' ≡ cs ++ more → IsStepPlaced (length cs) s
    → whole_step cs s ≡ step → (whole_step cs' s ≡ step) × IsStepPlaced (length cs') s
step_then cs more cs' s step is h w = (
  ap (λ l. whole_step l s) is ∙ (step_more cs more s h ∙ w),
  step_stays (length cs) (length cs') s (subst (λ l. length cs ≤ length l) (sym is) (longer cs more)) h,
)
