-- What C gets of a making, which may give a stream's number again. Ours.
use Rattle.std.specs.Prelude.{◌≡◌, ℕ, Option, Some, None}
use Rattle.strm_codes.specs.declared.codes.TransmitIndex.{TransmitIndex}
use Rattle.strm_machine.specs.State.{State}
use Rattle.strm_machine.specs.Reactions.{Reaction}
use Rattle.strm_machine.specs.declared.steps.Step.TheVariants as steps
use Rattle.strm_places.specs.Again.{IsFree, reacts_at}
use Rattle.strm_guest_store.specs.Limits.{is_pair_past}
use Rattle.strm_c.specs.declared.exports.pairs.StrmPair.{StrmPair}
use Rattle.strm_c.specs.declared.handles.StoreHandle.{StoreHandle}
use Rattle.strm_c.specs.Limits.{WithinLimits, is_past_of}
use Rattle.strm_c.specs.Pairs.{pair_in}
use Rattle.strm_c.specs.Statuses.{IsAnswerOr, IsNothing, no_payload, no_store}

-- the status, the pair and the store afterwards are the machine's where a stream that is made gets some free
-- number
pub record IsMade (old : State) (step : ℕ → Reaction) (status : ℕ) (old_pair new_pair : StrmPair) (new : Option State) : Type 0 where
  pub number : ℕ
  pub free : IsFree old.streams number
  pub answer : IsAnswerOr old (step number) status 0 0 new
  pub pair : status ≡ 0 → new_pair ≡ pair_in (step number).reply old_pair

-- a call that makes a stream of a payload or of a type, which it names by a word
abbrev pub AnswersMaking : {T : Type 0} → Option State → Option T → (ℕ → State → T → Reaction)
    → ℕ → StrmPair → StrmPair → Option State → Type 0
AnswersMaking (Some old) (Some named) step status old_pair new_pair new =
    IsMade old (λ n. step n old named) status old_pair new_pair new
AnswersMaking (Some old) None step status old_pair new_pair new =
    IsNothing (Some old) no_payload status 0 0 new
AnswersMaking None named step status old_pair new_pair new = IsNothing None no_store status 0 0 new

-- the making of a stream or future between two guests, of a type that was named or not
abbrev pub AnswersBetween : StoreHandle → StoreHandle → ℕ → ℕ → Option TransmitIndex → ℕ → StrmPair → StrmPair → Type 0
AnswersBetween old new writer reader named status old_pair new_pair =
    WithinLimits old new (is_past_of old named (λ s limits. is_pair_past s limits writer reader)) status 0 0
    (AnswersMaking old.state named (λ n s ty. reacts_at n s (steps.Between writer reader ty)) status old_pair new_pair new.state)
