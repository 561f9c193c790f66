-- The steps of a run that guests alone do, and host ends that have no part in them.
use Rattle.std.proofs.Common.{◌≡◌, ℕ, ◌+◌, true, false, List, [], ◌∷◌, take, Some, refl, sym, ◌∙◌, subst, arith}
use Rattle.std.proofs.lemmas.List.Elements.{All-pop, All-take, All-get_or}
use Rattle.strm_buffers.specs.Tells.{Tells}
use Rattle.strm_machine.specs.State.{State}
use Rattle.strm_laws.specs.Starts.{run_start}
use Rattle.strm_machine.specs.Reactions.{react}
use Rattle.strm_machine.specs.Plays.{play}
use Rattle.strm_machine.specs.Acts.{act_of}
use Rattle.strm_machine.specs.declared.steps.Step.{Step}
use Rattle.strm_machine.specs.declared.replies.Reply.{Reply}
use Rattle.strm_machine.specs.declared.streams.Side.TheVariants.{Writing, Reading}
use Rattle.strm_machine.proofs.EmptyLemmas.{HostsHold-empty}
use Rattle.strm_machine.proofs.HostLemmas.{serving_made}
use Rattle.strm_host_machine.specs.Steps.{touches}
use Rattle.strm_host_machine.specs.Does.{Fits}
use Rattle.strm_transmit.specs.Hosted.{lone}
use Rattle.strm_transmit.specs.Guests.{Unhosted, is_of_guests}
use Rattle.strm_transmit.proofs.GuestLemmas.{reaction-unhosted, empty-unhosted, touches-none}
use Rattle.strm_session.specs.Runs.{AreOfGuests}
use Rattle.strm_session.proofs.PlayLemmas.{HaveLed, IsAt, take-at, played_more}

-- no host end is in use at the start
pub run_start-fits : (tells : Tells) → Fits run_start tells
run_start-fits tells = record {
  writers = λ n s e. absurd (let made = serving_made run_start Writing n s (HostsHold-empty 0 _) e in omega (arith, made));
  readers = λ r s e. absurd (let made = serving_made run_start Reading r s (HostsHold-empty 0 _) e in omega (arith, made));
}

abbrev IsOfGuests : Step → Type 0
IsOfGuests step = is_of_guests (act_of step) ≡ true

-- the first k steps led there, no host end has an end there, and none was told anything
pub record LedAlone (old : Tells) (steps : List Step) (k : ℕ) (told : List Reply) (state : State) (now : Tells) : Type 0 where
  pub so_far : HaveLed steps k told state
  pub same : now ≡ old
  pub unhosted : Unhosted state

-- the same, where those steps are of guests alone
abbrev pub LedByGuests : Tells → List Step → ℕ → List Reply → State → Tells → Type 0
LedByGuests old steps k told state now = AreOfGuests (take k steps) → LedAlone old steps k told state now

pub alone_none : (old : Tells) (steps : List Step) → LedAlone old steps 0 [] run_start old
alone_none old steps = record { so_far = λ more. refl; same = refl; unhosted = empty-unhosted 0 _ }

-- a step that touches no host end
pub record StepAlone (told told' : List Reply) (state state' : State) (now after : Tells) (step : Step) : Type 0 where
  pub goes_on : (more : List Step) → play told state (step ∷ more) ≡ play told' state' more
  pub state_is : state' ≡ (react state step).state
  pub same : after ≡ now

module _ (old now : Tells) (steps : List Step) (k : ℕ) (told : List Reply) (state : State) (led : LedByGuests old steps k told state now) where
  -- one step more
  pub alone_more : (after : Tells) (step : Step) (told' : List Reply) (state' : State) → IsAt steps k step → (touches (lone state) (act_of step) ≡ false → StepAlone told told' state state' now after step) → LedByGuests old steps (k + 1) told' state' after
  alone_more after step told' state' at one all =
      let parts = All-pop IsOfGuests (take (k + 1) steps) (take k steps) (Some step) (take-at steps k step at) all in
      let l = led parts.0 in
      let x = one (touches-none state (act_of step) l.unhosted parts.1) in
      record {
        so_far = played_more steps k step told told' state state' at l.so_far x.goes_on;
        same = x.same ∙ l.same;
        unhosted = subst Unhosted (sym x.state_is) (reaction-unhosted state (act_of step) l.unhosted);
      }

  -- what holds of the steps before one
  pub alone_before : AreOfGuests steps → LedAlone old steps k told state now
  alone_before all = led (All-take IsOfGuests k steps all)

-- and a step among them touches no host end
pub untouched_at : (steps : List Step) (k : ℕ) (step : Step) (state : State) → IsAt steps k step → Unhosted state → AreOfGuests steps → touches (lone state) (act_of step) ≡ false
untouched_at steps k step state h u all =
    touches-none state (act_of step) u (subst IsOfGuests h.is (All-get_or IsOfGuests steps k step h.inside all))
