-- The producer of a future does what every producer of a stream owes.
use Rattle.std.proofs.Common.{◌≡◌, ℕ, ◌<◌, Bool, [], length, Option, Some, None, IfSome, arith}
use Rattle.strm_codes.specs.declared.codes.StreamResult.{StreamResult}
use Rattle.strm_buffers.specs.Buffers.{option_items}
use Rattle.strm_buffers.specs.Listing.{Item}
use Rattle.strm_buffers.specs.Said.{IfAnswered}
use Rattle.strm_buffers.specs.declared.answers.Turn.{Turn}
use Rattle.strm_host.specs.Producing.{ProducerPoll, polled}
use Rattle.strm_host.specs.Futures.{FuturePlan, future_poll, stream_plan}

module _ {A : Type 0} where
  pub one_at_most : (buffer : Option A) → length (option_items buffer) < 4294967295
  one_at_most None = omega arith
  one_at_most (Some value) = omega arith

  module _ (item : A → Item) (turn : Turn StreamResult) (buffer : Option A) where
    -- the turn and what it left in the buffer are this poll
    abbrev pub IsPoll : ProducerPoll → Type 0
    IsPoll poll = IfAnswered turn (λ answer. poll ≡ polled item [] (option_items buffer) answer)

    -- a poll that is the future's plan is the stream's
    pub stream_planned : (plan : Option (FuturePlan A)) (room : Option ℕ) (finish : Bool) → IfSome plan (λ next. IsPoll (future_poll item (next finish))) → IfSome (stream_plan item plan) (λ next. IsPoll (next room finish))
    stream_planned None room finish planned = tt
    stream_planned (Some next) room finish planned = planned
