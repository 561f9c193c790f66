-- One step of a run: how it goes on, and why it stops.
use Rattle.std.proofs.Common.{◌≡◌, ℕ, Bool, true, false, List, Ok, Err, Some, None, refl, sym, ap, ◌∙◌, subst}
use Rattle.strm_buffers.specs.Tells.{Tells}
use Rattle.strm_machine.specs.State.{State, stream_at, is_host}
use Rattle.strm_machine.specs.Sides.{opposite, end_of}
use Rattle.strm_machine.specs.Acts.{act_of}
use Rattle.strm_machine.specs.Reactions.{Reaction, react}
use Rattle.strm_machine.specs.declared.steps.Step.{Step}
use Rattle.strm_machine.specs.declared.replies.Reply.{Reply}
use Rattle.strm_machine.specs.declared.replies.Reply.TheVariants as replies
use Rattle.strm_machine.specs.declared.stops.Stop.TheVariants as stops
use Rattle.strm_host_machine.specs.World.{World}
use Rattle.strm_host_machine.specs.Outcomes.{Outcome}
use Rattle.strm_host_machine.specs.Steps.{outcome_of_step, may_poll}
use Rattle.strm_host_machine.specs.Asking.{GuestAsksBad, ByGuest}
use Rattle.strm_host_machine.proofs.AskingLemmas.{asks-stops}
use Rattle.strm_host_machine.specs.Does.{Answered, saids, world_of, Does}
use Rattle.strm_transmit.specs.Meets.{Meets, act_takes_memory, takes_memory}
use Rattle.strm_transmit.specs.Hosted.{call_answered, lone, Wanting, Leaves}
use Rattle.strm_transmit.specs.declared.errors.StoreError.{StoreError}
use Rattle.strm_transmit.specs.declared.errors.StoreError.TheVariants as errors
use Rattle.strm_session.specs.Runs.{stop_of, StopsStep, RunsOutStep, Polling, Untouched, LeavesOutOfMemory}
use Rattle.strm_session.specs.declared.runs.RunCause.{RunCause}
use Rattle.strm_session.specs.declared.runs.RunCause.TheVariants as causes
use Rattle.strm_session.proofs.PlayLemmas.{goes_on_done}
use Rattle.strm_session.proofs.RunningLemmas.{Running, step-runs}
use Rattle.strm_host_machine.proofs.DoesLemmas.{extends_self}

-- a step that was answered leaves the store untrapped
pub does_runs : (old new : State) (tells told : Tells) (reply : Reply) (step : Step) → old.trapped ≡ false → Does old new tells told (Ok reply) (λ w. outcome_of_step w step) → new.trapped ≡ false
does_runs old new tells told reply step t d =
    subst Running (d.gives (saids told) (extends_self told)) (step-runs (world_of old tells (saids told)) step t)

-- none finds it trapped
pub never_trapped : (old new : State) (tells told : Tells) (step : Step) → old.trapped ≡ false → Does old new tells told (Err (Some stops.StoreTrapped)) (λ w. outcome_of_step w step) → ⊥
never_trapped old new tells told step t d =
    subst Running (d.gives (saids told) (extends_self told)) (step-runs (world_of old tells (saids told)) step t) refl

-- a step whose reply finds no memory
pub does_out_of_memory : (old new : State) (tells told : Tells) (reply : Reply) (machine : World → Outcome) → Does old new tells told (Ok reply) machine → Does old new tells told (Err None) machine
does_out_of_memory old new tells told reply machine d = record {
  begins = d.begins;
  gives = λ logs e. tt;
  supplied = d.supplied;
  faults = d.faults;
  cause = tt;
}

-- a step that was answered asks for no bad item
pub answered_unmet : (old new : State) (tells told : Tells) (reply : Reply) (step : Step) (s : ℕ) → old.trapped ≡ false → Does old new tells told (Ok reply) (λ w. outcome_of_step w step) → GuestAsksBad (lone old) step s → ⊥
answered_unmet old new tells told reply step s t d g =
    let here = world_of old tells (saids told) in
    let halts = sym (d.gives (saids told) (extends_self told)) ∙ asks-stops here step t s (ByGuest (record { asks = g.asks; unhosted = g.unhosted })) in
    cc

-- one in which guests meet takes no memory, and polls no host end
pub meeting_takes_none : (state : State) (step : Step) (s : ℕ) → GuestAsksBad (lone state) step s → (takes_memory step ≡ false) × (may_poll (lone state) (act_of step) ≡ false)
meeting_takes_none state step s g =
    let a = g.asks.asked in (
      ap act_takes_memory a.does,
      ap (may_poll (lone state)) a.does ∙ ap (λ k. is_host (end_of (opposite a.side) (stream_at state k)).owner) a.stream ∙ g.unhosted,
    )

none_wanted : (error : StoreError) → ◌≡◌ {A = Answered} (call_answered (Err error)) (Err None) → error ≡ errors.OutOfMemory
none_wanted (errors.Refused refusal) e = cc
none_wanted (errors.HostFailed end) e = cc
none_wanted (errors.HostBroke end) e = cc
none_wanted (errors.BadItem s) e = cc
none_wanted errors.StoreTrapped e = cc
none_wanted errors.OutOfMemory e = refl

-- which error is told as running out of memory
pub wanted_error : (error : StoreError) (cause : RunCause) → ◌≡◌ {A = Answered} (call_answered (Err error)) (Err (stop_of cause)) → cause ≡ causes.OutOfMemory → error ≡ errors.OutOfMemory
wanted_error error cause e o = none_wanted error (e ∙ ap (λ c. Err (stop_of c)) o)

-- what a step leaves that found no memory
pub leaves_out_of_memory : (old new : State) (tells told : Tells) (step : Step) (error : StoreError) (cause : RunCause) → ◌≡◌ {A = Answered} (call_answered (Err error)) (Err (stop_of cause)) → Leaves (act_of step) old new tells told error → LeavesOutOfMemory old new tells told step cause
leaves_out_of_memory old new tells told step errors.OutOfMemory causes.OutOfMemory e l = by (may_poll (lone old) (act_of step)) l
  where
    by : (b : Bool) → Wanting b (act_of step) old new tells told → RunsOutStep old new tells told step
    by true l = Polling l.wants
    by false l = Untouched l.same l.ends
leaves_out_of_memory old new tells told step (errors.Refused refusal) causes.OutOfMemory e l = cc
leaves_out_of_memory old new tells told step (errors.HostFailed end) causes.OutOfMemory e l = cc
leaves_out_of_memory old new tells told step (errors.HostBroke end) causes.OutOfMemory e l = cc
leaves_out_of_memory old new tells told step (errors.BadItem s) causes.OutOfMemory e l = cc
leaves_out_of_memory old new tells told step errors.StoreTrapped causes.OutOfMemory e l = cc
leaves_out_of_memory old new tells told step error _ e l = tt

-- the same answer by another word
pub does_answering : {old new : State} {tells told : Tells} {machine : World → Outcome} (a b : Answered) → a ≡ b → Does old new tells told a machine → Does old new tells told b machine
does_answering {old} {new} {tells} {told} {machine} a b e d = subst (λ r. Does old new tells told r machine) e d

-- of guests alone, a step that stops a run asks for a bad item, or memory had run out
pub meets_stops : (told : List Reply) (old new : State) (step : Step) (error : StoreError) (cause : RunCause) → ◌≡◌ {A = Answered} (call_answered (Err error)) (Err (stop_of cause)) → Meets old new (Err error) (react old step) → StopsStep told old step cause
meets_stops told old new step (errors.Refused refusal) cause e m = cc
meets_stops told old new step (errors.HostFailed end) cause e m = absurd m
meets_stops told old new step (errors.HostBroke end) cause e m = absurd m
meets_stops told old new step (errors.BadItem s) (causes.BadItem t) e m =
    let same : s ≡ t = cc in
    subst (λ n. (react old step).reply ≡ replies.BadItem n) same (ap (λ (r : Reaction). r.reply) m.0)
meets_stops told old new step (errors.BadItem s) _ e m = cc
meets_stops told old new step errors.StoreTrapped (causes.BadItem t) e m = cc
meets_stops told old new step errors.StoreTrapped _ e m = cc
meets_stops told old new step errors.OutOfMemory causes.OutOfMemory e m = goes_on_done told old step m.0
meets_stops told old new step errors.OutOfMemory _ e m = cc
