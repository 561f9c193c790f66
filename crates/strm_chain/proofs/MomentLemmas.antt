-- One more step of a play, as a moment of its run; what the laws say there.
use Rattle.std.proofs.Common.{◌≡◌, ℕ, ◌≤◌, List, [], ◌∷◌, ◌++◌, length, refl, sym, ap, ◌∙◌, subst, arith}
use Rattle.strm_machine.specs.State.{State, stream_at}
use Rattle.strm_laws.specs.Starts.{run_start}
use Rattle.strm_machine.specs.Acts.{act_of}
use Rattle.strm_machine.specs.Reactions.{Reaction, react}
use Rattle.strm_machine.specs.Moments.{Moment, moment_of, got_in, moved_of, received}
use Rattle.strm_machine.specs.Soundness.{IsSound}
use Rattle.strm_machine.specs.Untouched.{StaysAside, LieThere}
use Rattle.strm_machine.specs.declared.streams.Side.{Side}
use Rattle.strm_machine.specs.declared.streams.Side.TheVariants.{Reading}
use Rattle.strm_machine.specs.declared.steps.Step.{Step}
use Rattle.strm_machine.specs.declared.replies.Reply.{Reply}
use Rattle.strm_machine.proofs.Changes.{scene, Change}
use Rattle.strm_laws.specs.Conservation.{moments, state_after_steps, got}
use Rattle.strm_laws.specs.Laws.{AreSteps, HandlesHold}
use Rattle.strm_laws.proofs.Calls.{got-push}
use Rattle.strm_laws.proofs.Conserved.{conserves}
use Rattle.strm_laws.proofs.Replies.{play-ends}
use Rattle.strm_laws.proofs.LawfulRuns.{AreSteps-front, IsReady-empty, ready_after, first_reacts, sound}
use Rattle.strm_laws.proofs.Handles.{handles_hold, held}
use Rattle.strm_laws.proofs.OtherBytes.{other_bytes_stay, bytes_are_put}
use Rattle.strm_chain.specs.Playing.{ChainPlay, IsChainPlayed, Adds}
use Rattle.strm_chain.specs.Flowing.{got_on}
use Rattle.strm_chain.proofs.PlayingLemmas.{follows_plays}

-- a play is a run of its steps
pub record IsRunOf (play : ChainPlay) : Type 0 where
  pub last_is : play.state ≡ state_after_steps run_start play.steps
  pub are : AreSteps play.steps

pub played_run : (play : ChainPlay) → IsChainPlayed play → IsRunOf play
played_run p f = record {
  last_is = (play-ends [] run_start p.steps p.replies p.state (follows_plays p.steps p.replies p.state f)).0;
  are = record { few = f.few; bytes = f.bytes };
}

-- handles and ends agree in it
pub holds_at : (play : ChainPlay) → IsRunOf play → HandlesHold play.state
holds_at p r = subst HandlesHold (sym r.last_is) (handles_hold (state_after_steps run_start p.steps) (held 0 _ p.steps))

-- as many items as a stream counts were received on it
pub count_is : (p : ChainPlay) (s : ℕ) → IsRunOf p → length (got_on p.steps s) ≡ received s p.state
count_is p s r = (conserves run_start.tag run_start.limits p.steps s r.are).count ∙ ap (received s) (sym r.last_is)

-- a read has moved no more than its stream received
pub moved_within : (p : ChainPlay) (s : ℕ) → IsRunOf p → moved_of (stream_at p.state s).reader.operation ≤ received s p.state
moved_within p s r =
    let c = conserves run_start.tag run_start.limits p.steps s r.are in
    subst (λ state. moved_of (stream_at state s).reader.operation ≤ received s state) (sym r.last_is) (omega (arith, c.told Reading, c.count))

state_after_steps-push : (state : State) (run : List Step) (step : Step) → state_after_steps state (run ++ step ∷ []) ≡ (react (state_after_steps state run) step).state
state_after_steps-push state [] step = refl
state_after_steps-push state (first ∷ run) step = state_after_steps-push (react state first).state run step

moments-push : (state : State) (run : List Step) (step : Step) → moments state (run ++ step ∷ []) ≡ moments state run ++ moment_of (state_after_steps state run) step ∷ []
moments-push state [] step = refl
moments-push state (first ∷ run) step = ap (λ more. moment_of state first ∷ more) (moments-push (react state first).state run step)

-- the play before a step is one too, and so is the play after it
pub run_before : (p q : ChainPlay) (step : Step) (reply : Reply) → Adds p q step reply → IsRunOf p → AreSteps q.steps → IsRunOf q
run_before p q step reply a r are = record {
  last_is = sym (ap (λ (x : Reaction). x.state) a.reacts) ∙ ap (λ s. (react s step).state) r.last_is
      ∙ sym (state_after_steps-push run_start p.steps step) ∙ ap (state_after_steps run_start) (sym a.steps_are);
  are = are;
}

pub are_before : (p q : ChainPlay) (step : Step) (reply : Reply) → Adds p q step reply → AreSteps q.steps → AreSteps p.steps
are_before p q step reply a are = AreSteps-front p.steps (step ∷ []) (subst AreSteps a.steps_are are)

-- the moment of a step that was played
abbrev pub moment_at : ChainPlay → ChainPlay → Step → Reply → Moment
moment_at p q step reply = record { act = act_of step; before = p.state; reply = reply; after = q.state }

-- what the laws say of a moment, behind these steps and with it
pub record IsSeen (m : Moment) (old new : List Step) : Type 0 where
  pub change : (s : ℕ) (side : Side) → Change side (scene s side m)
  pub aside : StaysAside m
  pub lies : LieThere m
  pub sound : IsSound m.before
  pub holds : HandlesHold m.before
  pub got : (s : ℕ) → got_on new s ≡ got_on old s ++ got_in s m

pub seen : (p q : ChainPlay) (step : Step) (reply : Reply) → IsRunOf p → AreSteps q.steps → Adds p q step reply → IsSeen (moment_at p q step reply) p.steps q.steps
seen p q step reply r are a =
    let run = p.steps in
    let all : AreSteps (run ++ step ∷ []) = subst AreSteps a.steps_are are in
    let ready = ready_after run_start run (step ∷ []) (IsReady-empty 0 _ (run ++ step ∷ []) all) in
    let at : moment_of (state_after_steps run_start run) step ≡ moment_at p q step reply =
    ap (λ s. moment_of s step) (sym r.last_is) ∙ ap (λ (x : Reaction). record { act = act_of step; before = p.state; reply = x.reply; after = x.state }) a.reacts in
    record {
      change = λ s side. subst (λ m. Change side (scene s side m)) at ((first_reacts (state_after_steps run_start run) step [] ready).change s side);
      aside = subst StaysAside at (other_bytes_stay 0 _ run step all);
      lies = subst LieThere at (bytes_are_put 0 _ run step);
      sound = subst IsSound (sym r.last_is) (sound 0 _ run);
      holds = holds_at p r;
      got = λ s. ap (λ x. got s (moments run_start x)) a.steps_are ∙ ap (got s) (moments-push run_start run step)
          ∙ got-push s (moments run_start run) (moment_of (state_after_steps run_start run) step) ∙ ap (λ m. got_on run s ++ got_in s m) at;
    }
