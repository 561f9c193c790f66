-- What C gets of a read or write is the machine's answer, and the store is spared where an item is none.
use Rattle.std.proofs.Common.{◌≡◌, ℕ, Result, Ok, Err, Some, refl, sym, ap, subst, ◌∙◌}
use Rattle.strm_codes.specs.declared.codes.ReturnCode.{ReturnCode}
use Rattle.strm_machine.specs.State.{State}
use Rattle.strm_machine.specs.Reactions.{Reaction, goes, react}
use Rattle.strm_machine.specs.declared.replies.Reply.{Reply}
use Rattle.strm_machine.specs.declared.replies.Reply.TheVariants as replies
use Rattle.strm_machine.specs.declared.steps.Step.{Step}
use Rattle.strm_guest_store.specs.Operations.{MeetsOrTells}
use Rattle.strm_guest_store.specs.declared.operations.OperateError.{OperateError}
use Rattle.strm_guest_store.specs.declared.operations.OperateError.TheVariants as operate_errors
use Rattle.strm_c.specs.Statuses.{spared_by, spared, IsAnswer, status_of, word_in, operate_status, operate_word}

-- by the reply of the machine
spared-bad : (state : State) (r : Reaction) (stream : ℕ) → r.reply ≡ replies.BadItem stream → spared state r ≡ goes (replies.BadItem stream) state
spared-bad state r stream e = ap (λ (reply : Reply). spared_by reply state r) e

answer_by : (r : Reaction) (reply : Reply) (state : State) (status old_word new_word : ℕ) → r ≡ goes reply state → status ≡ status_of reply → new_word ≡ word_in reply old_word → IsAnswer r status old_word new_word (Some state)
answer_by r reply state status old_word new_word e s w =
    subst (λ (x : Reaction). IsAnswer x status old_word new_word (Some state)) (sym e) (record { status_is = s; word_is = w; state_is = refl })

operated : (old new : State) (result : Result ReturnCode OperateError) (step : Step) (word : ℕ) → MeetsOrTells old new result step → IsAnswer (spared old (react old step)) (operate_status result) word (operate_word result word) (Some new)
operated old new (Ok code) step word m =
    answer_by (spared old (react old step)) (replies.Code code) new 0 word _ (ap (spared old) m) refl refl
operated old new (Err (operate_errors.Refused refusal)) step word m =
    answer_by (spared old (react old step)) (replies.Refused refusal) new _ word word (ap (spared old) m.0) refl refl
operated old new (Err (operate_errors.BadItem item)) step word m =
    answer_by (spared old (react old step)) (replies.BadItem m.0.found.stream) new 64 word word
    (spared-bad old (react old step) m.0.found.stream m.0.answer ∙ ap (goes (replies.BadItem m.0.found.stream)) (sym m.1)) refl refl

-- what the store answers, as C gets it
pub is_operated : (old new : State) (result : Result ReturnCode OperateError) (step : Step) (status before after : ℕ) → MeetsOrTells old new result step → status ≡ operate_status result → after ≡ operate_word result before → IsAnswer (spared old (react old step)) status before after (Some new)
is_operated old new result step status before after m s w = rw (s, w) (operated old new result step before m)
