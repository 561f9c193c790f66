-- What a host writer records of each poll. Ours: wasmtime records nothing.
use Rattle.std.specs.Prelude.{ℕ, Bool, List, [], Option, Some, None, take, drop}
use Rattle.strm_codes.specs.declared.codes.StreamResult.{StreamResult}
use Rattle.strm_codes.specs.declared.codes.StreamResult.TheVariants as result
use Rattle.strm_codes.specs.declared.payloads.Payload.{Payload}
use Rattle.strm_buffers.specs.declared.answers.Answer.{Answer}
use Rattle.strm_buffers.specs.declared.answers.Answer.TheVariants as answer
use Rattle.strm_buffers.specs.declared.answers.Turn.{Turn}
use Rattle.strm_buffers.specs.declared.answers.Turn.TheVariants.{Pending, Ready, Failed, NoMemory}
use Rattle.strm_buffers.specs.Listing.{Item}

-- one poll of a host writer: how many items there was room for (None: as many as it likes), whether
-- it was asked to finish, what one of its items is, all items that it produced, and its answer
pub record WriterSaid : Type 0 where
  pub room : Option ℕ
  pub finish : Bool
  pub payload : Payload
  pub items : List Item
  pub answer : Answer

-- of the items of a poll, those that there was room for
abbrev pub in_room : Option ℕ → List Item → List Item
in_room (Some room) items = take room items
in_room None items = items

-- and those that there was not
abbrev pub past_room : Option ℕ → List Item → List Item
past_room (Some room) items = drop room items
past_room None items = []

-- the answer that a result is
abbrev pub answer_of_result : StreamResult → Answer
answer_of_result result.Completed = answer.Completed
answer_of_result result.Cancelled = answer.Cancelled
answer_of_result result.Dropped = answer.Dropped

-- the turn that has this answer
abbrev pub turn_of : Answer → Turn StreamResult
turn_of answer.Pending = Pending
turn_of answer.Completed = Ready result.Completed
turn_of answer.Cancelled = Ready result.Cancelled
turn_of answer.Dropped = Ready result.Dropped
turn_of answer.Failed = Failed

-- what holds of the answer of a turn; running out of memory is none
abbrev pub IfAnswered : Turn StreamResult → (Answer → Type 0) → Type 0
IfAnswered Pending P = P answer.Pending
IfAnswered (Ready r) P = P (answer_of_result r)
IfAnswered Failed P = P answer.Failed
IfAnswered NoMemory P = Unit {0}

-- what holds where memory had run out
abbrev pub IfNoMemory : Turn StreamResult → Type 0 → Type 0
IfNoMemory NoMemory P = P
IfNoMemory Pending P = Unit {0}
IfNoMemory (Ready r) P = Unit {0}
IfNoMemory Failed P = Unit {0}
