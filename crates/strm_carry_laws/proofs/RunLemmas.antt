-- Runs of one step, and runs one after the other.
use Rattle.std.proofs.Common.{◌≡◌, true, ℕ, List, [], ◌∷◌, ◌++◌, refl, sym, ap, ◌∙◌}
use Rattle.std.specs.Prelude.{Some, pos}
use Rattle.std.proofs.lemmas.List.{append_assoc, append-nil, map-append}
use Rattle.std.proofs.lemmas.List.Concat.{flat_map-append}
use Rattle.strm_machine.specs.State.{State}
use Rattle.strm_machine.specs.Plays.{is_settled}
use Rattle.strm_machine.specs.Reactions.{Reaction, react}
use Rattle.strm_machine.specs.Moments.{Moment, moment_of, got_in}
use Rattle.strm_machine.specs.declared.steps.Step.{Step}
use Rattle.strm_machine.specs.declared.replies.Reply.{Reply}
use Rattle.strm_laws.specs.Conservation.{state_after_steps, moments, replies_of, got}
use Rattle.strm_carry_laws.specs.OneStream.{bytes_as_items, dumped_in, dumped, AreSettled}
use Rattle.strm_carry_laws.specs.Serving.{Runs}

pub runs_none : (st : State) → Runs st st [] [] []
runs_none st = record { ends = refl; gets = refl; dumps = refl; settles = tt }

pub runs_step : (st : State) (x : Step) (r : Reaction) (taken : List ℕ) → react st x ≡ r → is_settled r.reply ≡ true → got_in 0 (moment_of st x) ≡ bytes_as_items taken → Runs st r.state (x ∷ []) taken (dumped_in r.reply)
runs_step st x r taken e s g = record {
  ends = ap (λ (q : Reaction). q.state) e;
  gets = append-nil (got_in 0 (moment_of st x)) ∙ g;
  dumps = append-nil (dumped_in (react st x).reply) ∙ ap (λ (q : Reaction). dumped_in q.reply) e;
  settles = (ap (λ (q : Reaction). is_settled q.reply) e ∙ s, tt);
}

moments-append : (st : State) (xs ys : List Step) → moments st (xs ++ ys) ≡ moments st xs ++ moments (state_after_steps st xs) ys
moments-append st [] ys = refl
moments-append st (x ∷ xs) ys = ap (λ (all : List Moment). moment_of st x ∷ all) (moments-append (react st x).state xs ys)

state_after_steps-append : (st : State) (xs ys : List Step) → state_after_steps st (xs ++ ys) ≡ state_after_steps (state_after_steps st xs) ys
state_after_steps-append st [] ys = refl
state_after_steps-append st (x ∷ xs) ys = state_after_steps-append (react st x).state xs ys

got-append : (one two : List Moment) → got 0 (one ++ two) ≡ got 0 one ++ got 0 two
got-append [] two = refl
got-append (m ∷ one) two = ap (λ s. got_in 0 m ++ s) (got-append one two) ∙ sym (append_assoc (got_in 0 m) (got 0 one) (got 0 two))

settled-append : (xs ys : List Reply) → AreSettled xs → AreSettled ys → AreSettled (xs ++ ys)
settled-append [] ys a b = b
settled-append (x ∷ xs) ys a b = (a.0, settled-append xs ys a.1 b)

-- one run after another
pub runs_both : (from mid to : State) (xs ys : List Step) (t u d e : List ℕ) → Runs from mid xs t d → Runs mid to ys u e → Runs from to (xs ++ ys) (t ++ u) (d ++ e)
runs_both from mid to xs ys t u d e a b =
    let all : moments from (xs ++ ys) ≡ moments from xs ++ moments mid ys = moments-append from xs ys ∙ ap (λ (s : State). moments from xs ++ moments s ys) a.ends in
    let told : replies_of (moments from (xs ++ ys)) ≡ replies_of (moments from xs) ++ replies_of (moments mid ys) =
    ap replies_of all ∙ map-append (λ (m : Moment). m.reply) (moments from xs) (moments mid ys) in
    record {
      ends = state_after_steps-append from xs ys ∙ ap (λ (s : State). state_after_steps s ys) a.ends ∙ b.ends;
      gets = ap (got 0) all ∙ got-append (moments from xs) (moments mid ys)
          ∙ rw (a.gets, b.gets) (sym (map-append (λ (x : ℕ). Some (pos x ∷ [])) t u));
      dumps = ap dumped told ∙ flat_map-append dumped_in (replies_of (moments from xs)) (replies_of (moments mid ys)) ∙ rw (a.dumps, b.dumps) refl;
      settles = rw told (settled-append (replies_of (moments from xs)) (replies_of (moments mid ys)) a.settles b.settles);
    }

-- the same run, said otherwise
pub runs_as : (from to other : State) (run : List Step) (t u d e : List ℕ) → to ≡ other → t ≡ u → d ≡ e → Runs from to run t d → Runs from other run u e
runs_as from to other run t u d e x y z a = rw (← x, ← y, ← z) a
