-- A call that answers leaves no trap, and only a trapped store answers so.
use Rattle.std.proofs.Common.{◌≡◌, Bool, true, false, Ok, Err, Some, refl, sym, ◌∙◌}
use Rattle.strm_buffers.specs.Tells.{Tells}
use Rattle.strm_machine.specs.State.{State}
use Rattle.strm_machine.specs.Acts.{act_of}
use Rattle.strm_machine.specs.declared.steps.Step.{Step}
use Rattle.strm_machine.specs.declared.replies.Reply.{Reply}
use Rattle.strm_machine.specs.declared.stops.Stop.TheVariants as stops
use Rattle.strm_host_machine.specs.Steps.{outcome_of_step}
use Rattle.strm_host_machine.specs.Does.{saids, world_of, Does}
use Rattle.strm_host_machine.proofs.OutcomeLemmas.{outcome-trapped}
use Rattle.strm_host_machine.proofs.DoesLemmas.{extends_self}
use Rattle.strm_session.proofs.StepLemmas.{does_runs, never_trapped}

-- a store that answers was not trapped
pub untrapped_before : (old new : State) (tells told : Tells) (reply : Reply) (step : Step) → Does old new tells told (Ok reply) (λ w. outcome_of_step w step) → old.trapped ≡ false
untrapped_before old new tells told reply step d = by old.trapped refl
  where
    by : (b : Bool) → old.trapped ≡ b → old.trapped ≡ false
    by false t = t
    by true t =
        absurd (let wrong = sym (outcome-trapped (world_of old tells (saids told)) (act_of step) t) ∙ d.gives (saids told) (extends_self told) in cc)

-- nor is it then
pub untrapped_after : (old new : State) (tells told : Tells) (reply : Reply) (step : Step) → Does old new tells told (Ok reply) (λ w. outcome_of_step w step) → new.trapped ≡ false
untrapped_after old new tells told reply step d = does_runs old new tells told reply step (untrapped_before old new tells told reply step d) d

-- one that says that it is trapped was
pub trapped_before : (old new : State) (tells told : Tells) (step : Step) → Does old new tells told (Err (Some stops.StoreTrapped)) (λ w. outcome_of_step w step) → old.trapped ≡ true
trapped_before old new tells told step d = by old.trapped refl
  where
    by : (b : Bool) → old.trapped ≡ b → old.trapped ≡ true
    by true t = t
    by false t = absurd (never_trapped old new tells told step t d)
