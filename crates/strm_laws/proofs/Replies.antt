-- The play of steps as the moments of their run.
use Rattle.std.proofs.Common.{◌≡◌, List, [], ◌∷◌, ◌++◌, ◌∙◌}
use Rattle.std.proofs.lemmas.List.{append-nil, append_assoc}
use Rattle.strm_machine.specs.Words.{State, react}
use Rattle.strm_machine.specs.declared.steps.Step.{Step}
use Rattle.strm_machine.specs.declared.replies.Reply.{Reply}
use Rattle.strm_machine.specs.Plays.{Played, Ends, after_step, play}
use Rattle.strm_machine.specs.declared.replies.Reply.TheVariants as replies
use Rattle.strm_laws.specs.Conservation.{moments, state_after_steps, replies_of}

-- a play that ends goes on after each step
after_step-ends : (told : List Reply) (reply : Reply) (state : State) (next : List Reply → State → Played) (all : List Reply) (end : State) → after_step told reply state next ≡ Ends all end → next (told ++ reply ∷ []) state ≡ Ends all end
after_step-ends told (replies.BadItem stream) state next all end h = cc
after_step-ends told replies.StoreTrapped state next all end h = cc
after_step-ends told replies.Done state next all end h = h
after_step-ends told (replies.Number n) state next all end h = h
after_step-ends told (replies.Pair pair) state next all end h = h
after_step-ends told (replies.Code code) state next all end h = h
after_step-ends told (replies.Event code) state next all end h = h
after_step-ends told (replies.Member member) state next all end h = h
after_step-ends told (replies.Bytes bytes) state next all end h = h
after_step-ends told (replies.Refused refusal) state next all end h = h

-- a play that ends tells the replies of its moments, and its state is the last
pub play-ends : (told : List Reply) (state : State) (steps : List Step) (all : List Reply) (end : State) → play told state steps ≡ Ends all end → (end ≡ state_after_steps state steps) × (all ≡ told ++ replies_of (moments state steps))
play-ends told state [] all end h = (cc, rw (append-nil told) cc)
play-ends told state (step ∷ more) all end h =
    let r = react state step in
    let p = play-ends (told ++ r.reply ∷ []) r.state more all end (after_step-ends told r.reply r.state (λ told' state'. play told' state' more) all end h) in
    (p.0, p.1 ∙ append_assoc told (r.reply ∷ []) (replies_of (moments r.state more)))
