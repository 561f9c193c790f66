-- What the producer of a future tells of its polls. Ours.
use Rattle.std.specs.Prelude.{◌≡◌, Bool, [], ◌∷◌, Option, Some, None, IsSome}
use Rattle.std.specs.Option.{option_map}
use Rattle.strm_codes.specs.declared.codes.StreamResult.{StreamResult}
use Rattle.strm_codes.specs.declared.codes.StreamResult.TheVariants as result
use Rattle.strm_buffers.specs.Listing.{Item}
use Rattle.strm_buffers.specs.declared.answers.Answer.TheVariants as answer
use Rattle.strm_buffers.specs.declared.answers.Turn.{Turn}
use Rattle.strm_buffers.specs.declared.answers.Turn.TheVariants.{Pending, Ready, Failed, NoMemory}
use Rattle.strm_host.specs.Producing.{ProducerPoll, Plan}

-- what a poll answers, asked to finish or not
abbrev pub FuturePlan : Type 0 → Type 0
FuturePlan A = Bool → Turn (Option A)

-- what holds where a poll failed
abbrev pub IfFailed : {A : Type 0} → Turn A → Type 0 → Type 0
IfFailed Failed P = P
IfFailed turn P = Unit {0}

-- what holds of a poll, unless memory had run out
abbrev pub IfPolled : {A : Type 0} → Turn A → Type 0 → Type 0
IfPolled NoMemory P = Unit {0}
IfPolled turn P = P

-- a poll answers what was planned, or memory had run out
abbrev pub IsPlanned : {A : Type 0} → Option (FuturePlan A) → Bool → Turn (Option A) → Type 0
IsPlanned None finish turn = Unit {0}
IsPlanned (Some plan) finish turn = IfPolled turn (turn ≡ plan finish)

-- AS A STREAM

-- a value is one item and Completed, none is Cancelled; running out of memory is no poll, and is passed on
abbrev pub future_poll : {A : Type 0} → (A → Item) → Turn (Option A) → ProducerPoll
future_poll item Pending = record { items = []; answer = answer.Pending }
future_poll item (Ready (Some value)) = record { items = item value ∷ []; answer = answer.Completed }
future_poll item (Ready None) = record { items = []; answer = answer.Cancelled }
future_poll item Failed = record { items = []; answer = answer.Failed }
future_poll item NoMemory = record { items = []; answer = answer.Pending }

-- the plan that follows from a future's
abbrev pub stream_plan : {A : Type 0} → (A → Item) → Option (FuturePlan A) → Plan
stream_plan item plan = option_map (λ next room finish. future_poll item (next finish)) plan

-- Completed comes with a value, no other answer does, and Dropped never comes
abbrev pub IsValued : {A : Type 0} → Turn StreamResult → Option A → Type 0
IsValued (Ready result.Completed) buffer = IsSome buffer
IsValued (Ready result.Dropped) buffer = ⊥
IsValued turn buffer = buffer ≡ None
