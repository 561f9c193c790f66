-- What a countdown gives and answers. Ours.
use Rattle.std.specs.Prelude.{ℕ, zero, suc, pos, [], ◌∷◌, Option, Some, None}
use Rattle.strm_codes.specs.declared.codes.StreamResult.{StreamResult}
use Rattle.strm_codes.specs.declared.codes.StreamResult.TheVariants as result
use Rattle.strm_buffers.specs.declared.answers.Answer.TheVariants as answer
use Rattle.strm_buffers.specs.declared.answers.Turn.{Turn}
use Rattle.strm_buffers.specs.declared.answers.Turn.TheVariants.{Ready}
use Rattle.strm_host.specs.Producing.{Plan, ProducerPoll}

-- with so many numbers left, the next one
abbrev pub given_at : ℕ → Option ℕ
given_at zero = None
given_at (suc n) = Some (suc n)

-- and the turn
abbrev pub turn_at : ℕ → Turn StreamResult
turn_at zero = Ready result.Dropped
turn_at (suc n) = Ready result.Completed

-- both together
abbrev pub poll_at : ℕ → ProducerPoll
poll_at zero = record { items = []; answer = answer.Dropped }
poll_at (suc n) = record { items = (pos (suc n) ∷ []) ∷ []; answer = answer.Completed }

-- its next poll, whatever room there is, and asked to finish or not
abbrev pub countdown_plan : ℕ → Plan
countdown_plan left = Some (λ room finish. poll_at left)
