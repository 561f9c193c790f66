-- A read or write that leaves a store as it was where an item that would move is none, and whose item
-- that is.
-- Canonical ABI, `load` of a char and of a variant, which trap. Ours: that the store is as it was, and what is told.
use Rattle.std.specs.Prelude.{◌≡◌, ℕ, ◌+◌, true, if◌then◌else◌, min, drop, Option, Some, None, Result, Err}
use Rattle.strm_codes.specs.Layout.{item_type}
use Rattle.strm_codes.specs.declared.payloads.Payload.{Payload}
use Rattle.strm_memory.specs.Items.{IsFirstBadItem}
use Rattle.strm_machine.specs.State.{State, memory_in, stream_at, is_gone}
use Rattle.strm_machine.specs.Asked.{AsksToMove}
use Rattle.strm_machine.specs.Reactions.{Reaction, goes}
use Rattle.strm_machine.specs.Sides.{opposite, end_of, write_of}
use Rattle.strm_machine.specs.declared.acts.NamedEnd.{NamedEnd}
use Rattle.strm_machine.specs.declared.replies.Reply.{Reply}
use Rattle.strm_machine.specs.declared.replies.Reply.TheVariants as replies
use Rattle.strm_machine.specs.declared.steps.Step.{Step}
use Rattle.strm_machine.specs.declared.steps.Step.TheVariants as steps
use Rattle.strm_machine.specs.declared.streams.Operation.{Operation}
use Rattle.strm_machine.specs.declared.streams.Owner.TheVariants.{Held}
use Rattle.strm_machine.specs.declared.streams.Side.{Side}
use Rattle.strm_machine.specs.declared.streams.Side.TheVariants.{Writing, Reading}
use Rattle.strm_machine.specs.declared.streams.Stream.{Stream}
use Rattle.strm_transmit.specs.Meets.{Meets}
use Rattle.strm_transmit.specs.declared.errors.StoreError.{StoreError}
use Rattle.strm_transmit.specs.declared.errors.StoreError.TheVariants.{BadItem as StopsAtBadItem}
use Rattle.strm_transmit.specs.declared.store.bad_items.BadItem.{BadItem}

-- the answer and the state after it are the machine's; but where the machine traps the store at an item that
-- is none, the answer is the machine's and the state is as it was
abbrev pub MeetsOrStays : State → State → Result Reply StoreError → Reaction → Type 0
MeetsOrStays old new (Err (StopsAtBadItem stream)) reaction =
    (reaction ≡ goes (replies.BadItem stream) (record old { trapped = true })) × (new ≡ old)
MeetsOrStays old new result reaction = Meets old new result reaction

-- what such an answer leaves in a store that an item which is none traps
abbrev pub left_by_error : StoreError → State → State
left_by_error (StopsAtBadItem stream) state = record state { trapped = true }
left_by_error _ state = state

-- a read or write of the end that is named, as a step
abbrev pub operation_step : Side → NamedEnd → ℕ → ℕ → Step
operation_step Writing end address count = steps.Write end.guest end.ty end.handle address count
operation_step Reading end address count = steps.Read end.guest end.ty end.handle address count

-- an operation that is open
abbrev pub open_operation : Option Operation → Option Operation
open_operation None = None
open_operation (Some operation) = if operation.is_open then Some operation else None

-- the operation that is open across from the end on a side, if the other end is there and has one
abbrev pub open_across : Side → Stream → Option Operation
open_across side stream =
    let other = end_of (opposite side) stream in
    if is_gone other.owner then None else open_operation other.operation

-- of so many items of a write that are next, the one of this place among them is the first that is none
abbrev pub IsFirstBad : State → Payload → Operation → ℕ → ℕ → Type 0
IsFirstBad state payload write count place =
    IsFirstBadItem (item_type payload) (drop write.address (memory_in state.guests write.guest)) count place

-- an item that is none, at which a step stops: the first such of those that the step asks to move. The guest
-- that has the write end is told, its handle of that end, and the item's place among all items of the
-- write, those among them that moved before
pub record IsBadItem (state : State) (step : Step) (item : BadItem) : Type 0 where
  pub stream : ℕ
  pub asked : AsksToMove state step stream
  pub writer : (stream_at state stream).writer.owner ≡ Held item.guest item.handle
  pub place : ℕ
  pub first : IsFirstBad state (stream_at state stream).payload (write_of asked.side asked.mine asked.theirs)
      (min asked.mine.left asked.theirs.left) place
  pub index : item.index ≡ (write_of asked.side asked.mine asked.theirs).moved + place
