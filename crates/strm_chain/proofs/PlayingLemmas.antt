-- A play goes on by one step.
use Rattle.std.proofs.Common.{◌≡◌, ◌<◌, true, false, List, [], ◌∷◌, ◌++◌, length, refl, sym, ap, ◌∙◌, subst, append_assoc, arith}
use Rattle.std.proofs.lemmas.List.{length_push, append-nil}
use Rattle.std.proofs.lemmas.List.Elements.{All-nil, All-push}
use Rattle.strm_machine.specs.State.{State}
use Rattle.strm_laws.specs.Starts.{run_start}
use Rattle.strm_machine.specs.Acts.{act_of}
use Rattle.strm_machine.specs.Reactions.{Reaction, react, goes}
use Rattle.strm_machine.specs.Plays.{Played, after_step, play, Ends, is_settled}
use Rattle.strm_machine.specs.declared.steps.Step.{Step}
use Rattle.strm_machine.specs.declared.replies.Reply.{Reply}
use Rattle.strm_machine.specs.declared.replies.Reply.TheVariants as replies
use Rattle.strm_machine.proofs.AskedLemmas.{react-by}
use Rattle.strm_host_machine.specs.Steps.{touches}
use Rattle.strm_host_machine.specs.Does.{Fits}
use Rattle.strm_transmit.specs.Hosted.{lone}
use Rattle.strm_transmit.specs.Meets.{is_done}
use Rattle.strm_transmit.specs.Guests.{nobody, Unhosted, is_of_guests}
use Rattle.strm_transmit.proofs.GuestLemmas.{reaction-unhosted, empty-unhosted, touches-none}
use Rattle.strm_laws.specs.Laws.{StepHasBytes}
use Rattle.strm_chain.specs.Playing.{Follows}

after-goes : (told : List Reply) (reply : Reply) (state : State) (next : List Reply → State → Played) → is_settled reply ≡ true → after_step told reply state next ≡ next (told ++ reply ∷ []) state
after-goes told (replies.BadItem s) state next h = cc
after-goes told replies.StoreTrapped state next h = cc
after-goes told _ state next h = refl

-- a step that is settled, and those behind it
pub play-goes : (told : List Reply) (state next : State) (step : Step) (more : List Step) (reply : Reply) → is_settled reply ≡ true → react state step ≡ goes reply next → play told state (step ∷ more) ≡ play (told ++ reply ∷ []) next more
play-goes told state next step more reply h e =
    ap (λ (r : Reaction). after_step told r.reply r.state (λ told' state'. play told' state' more)) e
    ∙ after-goes told reply next (λ told' state'. play told' state' more) h

-- a store that is not trapped is not where the step is settled
stays_running : (state : State) (step : Step) → state.trapped ≡ false → is_settled (react state step).reply ≡ true → (react state step).state.trapped ≡ false
stays_running state step t =
    react-by (λ r. is_settled r.reply ≡ true → r.state.trapped ≡ false) state step (λ s h e. cc) (λ r g e. g.trapped ∙ t) t

pub follows_start : Fits run_start nobody → Follows [] [] run_start
follows_start fits = record {
  led = λ more. refl;
  running = refl;
  unhosted = empty-unhosted 0 _;
  fits = fits;
  few = omega arith;
  bytes = All-nil StepHasBytes;
}

-- a step of guests touches no host end
pub touches_none : (steps : List Step) (replies : List Reply) (state : State) (step : Step) → Follows steps replies state → is_of_guests (act_of step) ≡ true → touches (lone state) (act_of step) ≡ false
touches_none steps replies state step f e = touches-none state (act_of step) f.unhosted e

-- a step that is done is settled
pub done_settled : (reply : Reply) → is_done reply ≡ true → is_settled reply ≡ true
done_settled (replies.BadItem s) d = cc
done_settled replies.StoreTrapped d = cc
done_settled _ d = refl

module _ (steps : List Step) (replies : List Reply) (state : State) (step : Step) (reply : Reply) (next : State) where
  pub follows_more : Follows steps replies state → StepHasBytes step → length steps < 4294967295 → react state step ≡ goes reply next → is_settled reply ≡ true → Fits next nobody → Follows (steps ++ step ∷ []) (replies ++ reply ∷ []) next
  follows_more f bytes room e settled fits =
      let after : (react state step).state ≡ next = ap (λ (r : Reaction). r.state) e in
      let told : (react state step).reply ≡ reply = ap (λ (r : Reaction). r.reply) e in
      record {
        led = λ more.
            ap (play [] run_start) (append_assoc steps (step ∷ []) more) ∙ f.led (step ∷ more)
            ∙ play-goes replies state next step more reply settled e;
        running = subst (λ (s : State). s.trapped ≡ false) after (stays_running state step f.running (ap is_settled told ∙ settled));
        unhosted = subst Unhosted after (reaction-unhosted state (act_of step) f.unhosted);
        fits = fits;
        few = omega (arith, room, length_push steps step);
        bytes = All-push StepHasBytes steps step f.bytes bytes;
      }

-- the replies are those of the machine's play
pub follows_plays : (steps : List Step) (replies : List Reply) (state : State) → Follows steps replies state → play [] run_start steps ≡ Ends replies state
follows_plays steps replies state f = ap (play [] run_start) (sym (append-nil steps)) ∙ f.led []
