-- What a call answers to C: a status, and a word where the status is 0. Ours.
use Rattle.std.specs.Prelude.{◌≡◌, ◌≢◌, ℕ, Option, Some, None, Result, Ok, Err, true}
use Rattle.strm_codes.specs.Codes.{word_of}
use Rattle.strm_codes.specs.Refusals.{refusal_number}
use Rattle.strm_codes.specs.declared.codes.ReturnCode.{ReturnCode}
use Rattle.strm_codes.specs.declared.refusals.Refusal.{Refusal}
use Rattle.strm_machine.specs.State.{State}
use Rattle.strm_machine.specs.Reactions.{Reaction, goes}
use Rattle.strm_machine.specs.declared.replies.Reply.{Reply}
use Rattle.strm_machine.specs.declared.replies.Reply.TheVariants as replies
use Rattle.strm_guest_store.specs.declared.operations.OperateError.{OperateError}
use Rattle.strm_guest_store.specs.declared.operations.OperateError.TheVariants as operate_errors
use Rattle.strm_transmit.specs.Meets.{is_done}
use Rattle.strm_transmit.specs.declared.errors.StoreError.{StoreError}
use Rattle.strm_transmit.specs.declared.errors.StoreError.TheVariants.{Refused, HostFailed, HostBroke, BadItem, StoreTrapped, OutOfMemory}

-- done is 0, a refusal its number from 1 to 30
abbrev pub status_of : Reply → ℕ
status_of (replies.Refused refusal) = refusal_number refusal
status_of (replies.BadItem stream) = 64
status_of replies.StoreTrapped = 65
status_of _ = 0

-- an allocation was refused
abbrev pub no_memory : ℕ
no_memory = 66

-- no payload, or no type, has the word
abbrev pub no_payload : ℕ
no_payload = 67

-- no stream has the number, or none of which an end is there
abbrev pub no_stream_status : ℕ
no_stream_status = 68

-- the handle is of no store
abbrev pub no_store : ℕ
no_store = 69

-- a read or write with these operands stops at no item
abbrev pub no_bad_item : ℕ
no_bad_item = 73

-- an error of the store's; a host end can't fail where none is there, and nothing traps the store
abbrev pub error_status : StoreError → ℕ
error_status (Refused refusal) = refusal_number refusal
error_status (BadItem stream) = 64
error_status StoreTrapped = 65
error_status OutOfMemory = no_memory
error_status (HostFailed end) = 70
error_status (HostBroke end) = 70

-- an answer of the store's
abbrev pub answer_status : {T : Type 0} → Result T StoreError → ℕ
answer_status (Ok value) = 0
answer_status (Err error) = error_status error

-- an answer of a read or write
abbrev pub operate_status : Result ReturnCode OperateError → ℕ
operate_status (Ok code) = 0
operate_status (Err (operate_errors.Refused refusal)) = refusal_number refusal
operate_status (Err (operate_errors.BadItem item)) = 64

-- its word; an error leaves the word that was there
abbrev pub operate_word : Result ReturnCode OperateError → ℕ → ℕ
operate_word (Ok code) word = word_of code
operate_word (Err error) word = word

-- an answer that can only be refused
abbrev pub found_status : {T : Type 0} → Result T Refusal → ℕ
found_status (Ok value) = 0
found_status (Err refusal) = refusal_number refusal

-- the word of an event: 3, which is no code's, for none
abbrev pub event_word : Option ReturnCode → ℕ
event_word (Some code) = word_of code
event_word None = 3

-- the word that a step which was done answers
abbrev pub word_in : Reply → ℕ → ℕ
word_in (replies.Number number) word = number
word_in (replies.Code code) word = word_of code
word_in (replies.Event event) word = event_word event
word_in _ word = word

-- the word of an answer; an error leaves the word that was there
abbrev pub answer_word : {T : Type 0} → (T → ℕ) → Result T StoreError → ℕ → ℕ
answer_word f (Ok value) word = f value
answer_word f (Err error) word = word

-- what the machine does at a step; but at an item that is none it answers the same, and all is as it was
abbrev pub spared_by : Reply → State → Reaction → Reaction
spared_by (replies.BadItem stream) state reaction = goes (replies.BadItem stream) state
spared_by reply state reaction = reaction

-- by its reply
abbrev pub spared : State → Reaction → Reaction
spared state reaction = spared_by reaction.reply state reaction

-- the status, the word and the store afterwards are the machine's
pub record IsAnswer (reaction : Reaction) (status old_word new_word : ℕ) (new : Option State) : Type 0 where
  pub status_is : status ≡ status_of reaction.reply
  pub word_is : new_word ≡ word_in reaction.reply old_word
  pub state_is : new ≡ Some reaction.state

-- or, where the machine does the step, memory had run out and nothing has changed
abbrev pub IsAnswerOr : State → Reaction → ℕ → ℕ → ℕ → Option State → Type 0
IsAnswerOr old reaction status old_word new_word new =
    (status ≢ no_memory → IsAnswer reaction status old_word new_word new)
    × (status ≡ no_memory → (is_done reaction.reply ≡ true) × (new_word ≡ old_word) × (new ≡ Some old))

-- nothing was done, which the status tells
pub record IsNothing (old : Option State) (why status old_word new_word : ℕ) (new : Option State) : Type 0 where
  pub status_is : status ≡ why
  pub word_is : new_word ≡ old_word
  pub state_is : new ≡ old

-- a call on a handle: the machine's step of its store, if it is of one
abbrev pub AnswersCall : Option State → (State → Reaction) → ℕ → ℕ → ℕ → Option State → Type 0
AnswersCall (Some old) step status old_word new_word new = IsAnswer (step old) status old_word new_word new
AnswersCall None step status old_word new_word new = IsNothing None no_store status old_word new_word new

-- the same where memory may run out
abbrev pub AnswersOr : Option State → (State → Reaction) → ℕ → ℕ → ℕ → Option State → Type 0
AnswersOr (Some old) step status old_word new_word new = IsAnswerOr old (step old) status old_word new_word new
AnswersOr None step status old_word new_word new = IsNothing None no_store status old_word new_word new

-- a call that names a payload or a type by a word: the machine's step of it, if the word is one's
abbrev pub AnswersOf : {T : Type 0} → Option State → Option T → (State → T → Reaction)
    → ℕ → ℕ → ℕ → Option State → Type 0
AnswersOf (Some old) (Some named) step status old_word new_word new =
    IsAnswer (step old named) status old_word new_word new
AnswersOf (Some old) None step status old_word new_word new =
    IsNothing (Some old) no_payload status old_word new_word new
AnswersOf None named step status old_word new_word new = IsNothing None no_store status old_word new_word new

-- the same where memory may run out
abbrev pub AnswersOfOr : {T : Type 0} → Option State → Option T → (State → T → Reaction)
    → ℕ → ℕ → ℕ → Option State → Type 0
AnswersOfOr (Some old) (Some named) step status old_word new_word new =
    IsAnswerOr old (step old named) status old_word new_word new
AnswersOfOr (Some old) None step status old_word new_word new =
    IsNothing (Some old) no_payload status old_word new_word new
AnswersOfOr None named step status old_word new_word new = IsNothing None no_store status old_word new_word new
