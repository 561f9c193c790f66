-- One step more of a play.
use Rattle.std.proofs.Math.Seq.{split_at}
use Rattle.std.proofs.lemmas.List.{take_more, append-nil}
use Rattle.std.proofs.Common.{◌≡◌, ℕ, ◌+◌, ◌<◌, true, false, List, [], ◌∷◌, ◌++◌, length, take, drop, get_or, suc, refl, sym, ap, ◌∙◌, subst, append_assoc}
use Rattle.strm_machine.specs.Words.{State}
use Rattle.strm_machine.specs.Reactions.{Reaction, goes, react}
use Rattle.strm_laws.specs.Starts.{run_start}
use Rattle.strm_machine.specs.Plays.{Played, Ends, Halts, after_step, play}
use Rattle.strm_machine.specs.declared.steps.Step.{Step}
use Rattle.strm_machine.specs.declared.replies.Reply.{Reply}
use Rattle.strm_machine.specs.declared.replies.Reply.TheVariants as replies
use Rattle.strm_machine.proofs.AskedLemmas.{react-by, reply-bad, bad-traps}
use Rattle.strm_transmit.specs.Meets.{is_done, is_settled}
use Rattle.strm_session.specs.Runs.{StopsAt, StopsStep}
use Rattle.strm_session.specs.declared.runs.RunCause.{RunCause}
use Rattle.strm_session.specs.declared.runs.RunCause.TheVariants as causes

after-goes : (told : List Reply) (reply : Reply) (state : State) (next : List Reply → State → Played) → is_settled reply ≡ true → after_step told reply state next ≡ next (told ++ reply ∷ []) state
after-goes told (replies.BadItem s) state next h = cc
after-goes told replies.StoreTrapped state next h = cc
after-goes told _ state next h = refl

-- the run goes on
pub play-goes : (told : List Reply) (state next : State) (step : Step) (more : List Step) (reply : Reply) → is_settled reply ≡ true → react state step ≡ goes reply next → play told state (step ∷ more) ≡ play (told ++ reply ∷ []) next more
play-goes told state next step more reply h e =
    ap (λ (r : Reaction). after_step told r.reply r.state (λ told' state'. play told' state' more)) e
    ∙ after-goes told reply next (λ told' state'. play told' state' more) h

-- the run halts
pub play-halts : (told : List Reply) (state next : State) (step : Step) (more : List Step) (s : ℕ) → react state step ≡ goes (replies.BadItem s) next → play told state (step ∷ more) ≡ Halts told (replies.BadItem s)
play-halts told state next step more s e =
    ap (λ (r : Reaction). after_step told r.reply r.state (λ told' state'. play told' state' more)) e

-- a store that is not trapped answers for itself, and is not where it goes on
pub record RunsOn (reaction : Reaction) : Type 0 where
  pub trapped : reaction.reply ≡ replies.StoreTrapped → ⊥
  pub goes_on : is_settled reaction.reply ≡ true → reaction.state.trapped ≡ false

pub reaction-runs : (state : State) (step : Step) → state.trapped ≡ false → RunsOn (react state step)
reaction-runs state step t =
    react-by RunsOn state step
    (λ s h. record { trapped = λ e. cc; goes_on = λ e. cc })
    (λ r g. record { trapped = λ e. let wrong : true ≡ false = sym g.settled ∙ ap is_settled e in cc; goes_on = λ e. g.trapped ∙ t })
    t

-- the same of a reply and a state that are known
pub RunsOn-to : (state next : State) (step : Step) (reply : Reply) → state.trapped ≡ false → react state step ≡ goes reply next → RunsOn (goes reply next)
RunsOn-to state next step reply h e = subst RunsOn e (reaction-runs state step h)

settled_of : (told : List Reply) (reply : Reply) (state : State) (next : List Reply → State → Played) (all : List Reply) (end : State) → after_step told reply state next ≡ Ends all end → is_settled reply ≡ true
settled_of told (replies.BadItem s) state next all end e = cc
settled_of told replies.StoreTrapped state next all end e = cc
settled_of told _ state next all end e = refl

-- a play that ends leaves a store that is not trapped, and goes on from there
pub record LeadsTo (told : List Reply) (state : State) (steps : List Step) (all : List Reply) (end : State) : Type 0 where
  pub goes_on : (more : List Step) → play told state (steps ++ more) ≡ play all end more
  pub running : end.trapped ≡ false

pub play-leads : (told : List Reply) (state : State) (steps : List Step) (all : List Reply) (end : State) → state.trapped ≡ false → play told state steps ≡ Ends all end → LeadsTo told state steps all end
play-leads told state [] all end t e =
    let same : state ≡ end = cc in
    let replies_same : told ≡ all = cc in
    record { goes_on = λ more. ap (λ r. play r state more) replies_same ∙ ap (λ s. play all s more) same; running = rw (sym same) t }
play-leads told state (step ∷ steps) all end t e =
    let r = react state step in
    let h = settled_of told r.reply r.state (λ told' state'. play told' state' steps) all end e in
    let goes = λ (more : List Step). play-goes told state r.state step more r.reply h refl in
    let rest = play-leads (told ++ r.reply ∷ []) r.state steps all end ((reaction-runs state step t).goes_on h) (sym (goes steps) ∙ e) in
    record { goes_on = λ more. goes (steps ++ more) ∙ rest.goes_on more; running = rest.running }

-- a reply of a step that is done
done_settled : (reply : Reply) → is_done reply ≡ true → is_settled reply ≡ true
done_settled (replies.Refused r) e = cc
done_settled (replies.BadItem s) e = cc
done_settled replies.StoreTrapped e = cc
done_settled _ e = refl

-- the machine goes on from a step
abbrev pub StepGoesOn : List Reply → State → Step → Type 0
StepGoesOn told state step = (reply : Reply) × (next : State) × (play told state (step ∷ []) ≡ Ends (told ++ reply ∷ []) next)

pub goes_on_to : (told : List Reply) (state next : State) (step : Step) (reply : Reply) → is_settled reply ≡ true → react state step ≡ goes reply next → StepGoesOn told state step
goes_on_to told state next step reply h e = (reply, next, play-goes told state next step [] reply h e)

pub goes_on_done : (told : List Reply) (state : State) (step : Step) → is_done (react state step).reply ≡ true → StepGoesOn told state step
goes_on_done told state step h = goes_on_to told state (react state step).state step (react state step).reply (done_settled (react state step).reply h) refl

-- the first k steps were answered so, and led there
abbrev pub HaveLed : List Step → ℕ → List Reply → State → Type 0
HaveLed steps k told state = (more : List Step) → play [] run_start (take k steps ++ more) ≡ play told state more

-- the step of number k, from 0
pub record IsAt (steps : List Step) (k : ℕ) (step : Step) : Type 0 where
  pub inside : k < length steps
  pub is : get_or steps k step ≡ step

pub is_at : (steps : List Step) (k : ℕ) (step : Step) → k < length steps → step ≡ get_or steps k step → IsAt steps k step
is_at steps k step inside is = record { inside = inside; is = sym is }

pub take-at : (steps : List Step) (k : ℕ) (step : Step) → IsAt steps k step → take (k + 1) steps ≡ take k steps ++ step ∷ []
take-at steps k step h = take_more steps k step h.inside ∙ ap (λ s. take k steps ++ s ∷ []) h.is

-- the replies so far are those to the steps before
pub stopped_before : (steps : List Step) (k : ℕ) (told : List Reply) (state : State) → length told ≡ k → HaveLed steps k told state → play [] run_start (take (length told) steps) ≡ Ends told state
stopped_before steps k told state n led =
    ap (λ m. play [] run_start (take m steps)) n ∙ ap (play [] run_start) (sym (append-nil (take k steps))) ∙ led []

-- where the step of number k stops a run
pub stops : (steps : List Step) (k : ℕ) (step : Step) (told : List Reply) (state : State) (cause : RunCause) → IsAt steps k step → length told ≡ k → HaveLed steps k told state → state.trapped ≡ false → StopsStep told state step cause → StopsAt steps told cause
stops steps k step told state (causes.BadItem stream) h n led t answered =
    let bad = reply-bad state step stream t answered in
    let cut : steps ≡ take k steps ++ step ∷ drop (suc k) steps = split_at steps k step h.inside ∙ ap (λ s. take k steps ++ s ∷ drop (suc k) steps) h.is in
    ap (play [] run_start) cut ∙ led (step ∷ drop (suc k) steps) ∙ play-halts told state (record state { trapped = true }) step (drop (suc k) steps) stream (bad-traps state step stream t bad)
stops steps k step told state causes.OutOfMemory h n led t w =
    let cut : take (length told + 1) steps ≡ take k steps ++ step ∷ [] = ap (λ m. take (m + 1) steps) n ∙ take-at steps k step h in
    (w.0 ∷ [], w.1, ap (play [] run_start) cut ∙ led (step ∷ []) ∙ w.2)
stops steps k step told state (causes.HostFailed end) h n led t stop = absurd stop
stops steps k step told state (causes.HostBroke end) h n led t stop = absurd stop

-- one step more
pub played_more : (steps : List Step) (k : ℕ) (step : Step) (told told' : List Reply) (state state' : State) → IsAt steps k step → HaveLed steps k told state → ((more : List Step) → play told state (step ∷ more) ≡ play told' state' more) → HaveLed steps (k + 1) told' state'
played_more steps k step told told' state state' h led goes more =
    let cut : take (k + 1) steps ++ more ≡ take k steps ++ step ∷ more = ap (λ t. t ++ more) (take-at steps k step h) ∙ append_assoc (take k steps) (step ∷ []) more in
    ap (play [] run_start) cut ∙ led (step ∷ more) ∙ goes more
