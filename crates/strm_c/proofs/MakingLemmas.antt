-- What C gets of a making is the store's answer.
use Rattle.std.proofs.Common.{◌≡◌, ◌≢◌, ℕ, Bool, true, false, List, Option, Some, Result, Ok, Err, refl, sym, ap, arith}
use Rattle.std.proofs.lemmas.Grind.{common_steps}
use Rattle.strm_codes.specs.Refusals.{refusal_number}
use Rattle.strm_codes.specs.declared.refusals.Refusal.{Refusal}
use Rattle.strm_machine.specs.State.{State}
use Rattle.strm_machine.specs.Reactions.{Reaction}
use Rattle.strm_machine.specs.declared.replies.Pair.{Pair}
use Rattle.strm_machine.specs.declared.replies.Reply.TheVariants as replies
use Rattle.strm_transmit.specs.Again.{MeetsAt}
use Rattle.strm_transmit.specs.Meets.{Meets, as_reply}
use Rattle.strm_transmit.specs.declared.errors.StoreError.{StoreError}
use Rattle.strm_transmit.specs.declared.errors.StoreError.TheVariants as errors
use Rattle.strm_guest_store.specs.Limited.{KeepsLimits}
use Rattle.strm_guest_store.specs.declared.guest_limits.GuestLimits.{GuestLimits}
use Rattle.strm_guest_store.specs.declared.limited_store.LimitedStore.{LimitedStore}
use Rattle.strm_c.specs.declared.exports.pairs.StrmPair.{StrmPair}
use Rattle.strm_c.specs.declared.handles.StoreHandle.{StoreHandle}
use Rattle.strm_c.specs.Lent.{handle_with_limits}
use Rattle.strm_c.specs.Limits.{WithinLimits, is_past_of}
use Rattle.strm_c.specs.Making.{IsMade, AnswersMaking}
use Rattle.strm_c.specs.Pairs.{answer_pair, pair_in}
use Rattle.strm_c.specs.Statuses.{IsAnswer, IsAnswerOr, answer_status, status_of, word_in}

-- a refusal has a number from 1 to 30
numbered : (refusal : Refusal) → (refusal_number refusal ≢ 66) × (refusal_number refusal ≢ 0)
numbered refusal = grind (arith, common_steps)

-- the machine's answer
is_answer : (r : Reaction) (new : State) (status : ℕ) → status ≡ status_of r.reply → 0 ≡ word_in r.reply 0 → new ≡ r.state → IsAnswer r status 0 0 (Some new)
is_answer r new status s w e = record { status_is = s; word_is = w; state_is = ap Some e }

answered : (old new : State) (result : Result Pair StoreError) (r : Reaction) → Meets old new (as_reply replies.Pair result) r → IsAnswerOr old r (answer_status result) 0 0 (Some new)
answered old new (Ok pair) r m =
    (λ more. is_answer r new 0 (sym (ap (λ (x : Reaction). status_of x.reply) m)) (sym (ap (λ (x : Reaction). word_in x.reply 0) m)) (sym (ap (λ (x : Reaction). x.state) m)), λ wrong. absurd (omega (arith, wrong)))
answered old new (Err (errors.Refused refusal)) r m =
    (λ more. is_answer r new (refusal_number refusal) (sym (ap (λ (x : Reaction). status_of x.reply) m.0)) (sym (ap (λ (x : Reaction). word_in x.reply 0) m.0)) (sym (ap (λ (x : Reaction). x.state) m.0)), λ wrong. absurd ((numbered refusal).0 wrong))
answered old new (Err (errors.HostFailed end)) r m = absurd m
answered old new (Err (errors.HostBroke end)) r m = absurd m
answered old new (Err (errors.BadItem stream)) r m =
    (λ more. is_answer r new 64 (sym (ap (λ (x : Reaction). status_of x.reply) m.0)) (sym (ap (λ (x : Reaction). word_in x.reply 0) m.0)) (sym (ap (λ (x : Reaction). x.state) m.0)), λ wrong. absurd (omega (arith, wrong)))
answered old new (Err errors.StoreTrapped) r m =
    (λ more. is_answer r new 65 (sym (ap (λ (x : Reaction). status_of x.reply) m.0)) (sym (ap (λ (x : Reaction). word_in x.reply 0) m.0)) (sym (ap (λ (x : Reaction). x.state) m.0)), λ wrong. absurd (omega (arith, wrong)))
answered old new (Err errors.OutOfMemory) r m = (λ more. absurd (more refl), λ e. (m.0, refl, ap Some m.1))

paired : (old new : State) (result : Result Pair StoreError) (r : Reaction) (pair : StrmPair) → Meets old new (as_reply replies.Pair result) r → answer_status result ≡ 0 → answer_pair result pair ≡ pair_in r.reply pair
paired old new (Ok answer) r pair m e = sym (ap (λ (x : Reaction). pair_in x.reply pair) m)
paired old new (Err (errors.Refused refusal)) r pair m e = absurd ((numbered refusal).1 e)
paired old new (Err (errors.HostFailed end)) r pair m e = absurd m
paired old new (Err (errors.HostBroke end)) r pair m e = absurd m
paired old new (Err (errors.BadItem stream)) r pair m e = cc
paired old new (Err errors.StoreTrapped) r pair m e = cc
paired old new (Err errors.OutOfMemory) r pair m e = cc

-- what the store answers to a making, as C gets it
pub is_made : (old new : State) (result : Result Pair StoreError) (step : ℕ → Reaction) (status : ℕ) (before after : StrmPair) → MeetsAt old new (as_reply replies.Pair result) step
    → status ≡ answer_status result → after ≡ answer_pair result before → IsMade old step status before after (Some new)
is_made old new result step status before after m s p = rw (s, p)
    (record {
      number = m.number;
      free = m.free;
      answer = answered old new result (step m.number) m.meets;
      pair = paired old new result (step m.number) before m.meets;
    })

-- what a handle is lent as, and a word names
pub record IsLent {T : Type 0} (h : StoreHandle) (limited : LimitedStore) (named : Option T) (value : T) : Type 0 where
  pub names : named ≡ Some value
  pub state : h.state ≡ Some limited.store
  pub limits : h.limits ≡ limited.limits

-- the same of a store whose guests have limits, where none is passed
module _ {T : Type 0} (h : StoreHandle) (limited new : LimitedStore) (named : Option T) (value : T) (lent : IsLent h limited named value)
    (past : State → List GuestLimits → Bool) (step : ℕ → State → T → Reaction)
    (answer : Result Pair StoreError) (status : ℕ) (before after : StrmPair) where
  -- it was made, for C
  abbrev pub IsMadeOf : Type 0
  IsMadeOf = IsMade limited.store (λ n. step n limited.store value) status before after (Some new.store)

  pub made_within : KeepsLimits {T = Result Pair StoreError} limited new (past limited.store limited.limits) (Ok answer) → IsMadeOf
      → WithinLimits h (handle_with_limits h new) (is_past_of h named past) status 0 0 (AnswersMaking h.state named step status before after (Some new.store))
  made_within keeps made =
      rw (lent.names, lent.state, lent.limits)
      (record {
        past = λ e. absurd (let wrong : false ≡ true = keeps.exactly.1 e in cc);
        within = λ e. made;
        limits = keeps.limits;
      })
