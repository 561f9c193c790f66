-- What a list answers to a poll: it gives all its items at once. wasmtime, `StreamProducer` for `Vec`
-- and `Box<[T]>`; that one may be too long for a poll is ours.
use Rattle.std.specs.Prelude.{ℕ, ◌-◌, ◌^◌, nat_lt, if◌then◌else◌, Bool, List, [], map, length, Some}
use Rattle.strm_codes.specs.declared.codes.StreamResult.{StreamResult}
use Rattle.strm_codes.specs.declared.codes.StreamResult.TheVariants as result
use Rattle.strm_buffers.specs.declared.answers.Answer.TheVariants as answer
use Rattle.strm_buffers.specs.declared.answers.Turn.{Turn}
use Rattle.strm_buffers.specs.declared.answers.Turn.TheVariants.{Ready, Failed}
use Rattle.strm_buffers.specs.Listing.{Item}
use Rattle.strm_host.specs.Producing.{ProducerPoll, Plan}

module _ {T : Type 0} where
  -- more items than one poll may produce
  abbrev pub is_too_long : List T → Bool
  is_too_long items = nat_lt 4294967294 (length items)

  -- a list that is too long fails at each poll
  abbrev pub list_faults : List T → ℕ
  list_faults items = if is_too_long items then 2 ^ 64 - 1 else 0

  -- what a poll answers
  abbrev pub list_turn : List T → Turn StreamResult
  list_turn items = if is_too_long items then Failed else Ready result.Dropped

  -- what it gives
  abbrev pub list_gives : List T → List T
  list_gives items = if is_too_long items then [] else items

  -- what it leaves
  abbrev pub list_keeps : List T → List T
  list_keeps items = if is_too_long items then items else []

  -- the poll that does so
  abbrev pub list_poll : (T → Item) → List T → ProducerPoll
  list_poll item items =
      if is_too_long items
      then record { items = []; answer = answer.Failed }
      else record { items = map item items; answer = answer.Dropped }

  -- its next poll
  abbrev pub list_plan : (T → Item) → List T → Plan
  list_plan item items = Some (λ room finish. list_poll item items)
