-- What C gets of a call on a stream or future that names its payload by a word. Ours.
use Rattle.std.specs.Prelude.{ℕ, Option}
use Rattle.strm_codes.specs.declared.payloads.Payload.{Payload}
use Rattle.strm_machine.specs.Reactions.{react}
use Rattle.strm_machine.specs.declared.steps.Step.{Step}
use Rattle.strm_guest_store.specs.Limits.{is_move_past}
use Rattle.strm_c.specs.Limits.{WithinLimits, is_past_of}
use Rattle.strm_c.specs.Payloads.{payload_at}
use Rattle.strm_c.specs.Statuses.{AnswersOf, AnswersOfOr, spared}
use Rattle.strm_c.specs.declared.handles.StoreHandle.{StoreHandle}

-- a cancel or a drop: the machine's step of the payload
abbrev pub AnswersNamed : StoreHandle → StoreHandle → ℕ → (Payload → Step) → ℕ → ℕ → ℕ → Type 0
AnswersNamed old new word step status old_word new_word =
    AnswersOf old.state (payload_at word) (λ s payload. react s (step payload)) status old_word new_word new.state

-- a read or write: the same, and the store is spared where an item is none
abbrev pub AnswersOperation : StoreHandle → StoreHandle → ℕ → (Payload → Step) → ℕ → ℕ → ℕ → Type 0
AnswersOperation old new word step status old_word new_word =
    AnswersOf old.state (payload_at word) (λ s payload. spared s (react s (step payload))) status old_word new_word new.state

-- a move of an end from one guest to another, whose limits may be passed
abbrev pub AnswersMove : StoreHandle → StoreHandle → ℕ → ℕ → ℕ → (Payload → Step) → ℕ → ℕ → ℕ → Type 0
AnswersMove old new word guest to step status old_word new_word =
    WithinLimits old new (is_past_of old (payload_at word) (λ s limits. is_move_past s limits guest to)) status old_word new_word
    (AnswersOfOr old.state (payload_at word) (λ s payload. react s (step payload)) status old_word new_word new.state)
