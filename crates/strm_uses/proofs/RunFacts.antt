-- What is known of a run of guests alone.
use Rattle.std.proofs.Common.{◌≡◌, ℕ, ◌≤◌, List, length, take, sym, ap, subst, ◌∙◌, arith}
use Rattle.std.proofs.lemmas.List.{take_all}
use Rattle.strm_codes.specs.declared.codes.TransmitKind.TheVariants.{Future}
use Rattle.strm_laws.specs.Conservation.{got, moments, state_after_steps}
use Rattle.strm_machine.specs.State.{State, stream_at}
use Rattle.strm_laws.specs.Starts.{run_start}
use Rattle.strm_machine.specs.declared.replies.Reply.{Reply}
use Rattle.strm_machine.specs.declared.steps.Step.{Step}
use Rattle.strm_session.specs.Runs.{HasLaws, IsRunKept}

-- the laws hold after the last step
pub laws_at_end : (steps : List Step) (replies : List Reply) (end : State) → IsRunKept steps replies end → HasLaws (moments run_start steps) (state_after_steps run_start steps)
laws_at_end steps replies end k =
    subst (λ (l : List Step). HasLaws (moments run_start l) (state_after_steps run_start l)) (take_all (length steps) steps (omega arith)) (k.laws (length steps))

-- a future of the store that a run hands out passed one item at most
pub one_at_end : (steps : List Step) (replies : List Reply) (end : State) → IsRunKept steps replies end → (s : ℕ) → (stream_at end s).kind ≡ Future → length (got s (moments run_start steps)) ≤ 1
one_at_end steps replies end k s f =
    (laws_at_end steps replies end k).passes_one s (sym (ap (λ (e : State). (stream_at e s).kind) k.ends) ∙ f)
