-- Which items a read or write asks to move at once, and where one of them is none. Said of the
-- operands, of what the handle names, of the operation that waits on the other side, and of the
-- writer's memory; no turn is taken here.
-- Canonical ABI, `canon stream.{read,write}` and `canon future.{read,write}`: items are lifted from
-- the writer's memory and lowered into the reader's; a char that is no Unicode scalar value traps.
use Rattle.std.specs.Prelude.{◌≡◌, ℕ, ◌<◌, ℤ, true, false, List, min, Option, Some, None}
use Rattle.strm_codes.specs.Layout.{item_type}
use Rattle.strm_memory.specs.Items.{items_at}
use Rattle.strm_machine.specs.State.{State, memory_in, stream_at, is_gone}
use Rattle.strm_machine.specs.Sides.{opposite, end_of, write_of}
use Rattle.strm_machine.specs.Meetings.{begun}
use Rattle.strm_machine.specs.Tests.{named, stream_named, items_asked}
use Rattle.strm_machine.specs.Refusals.{refusal}
use Rattle.strm_machine.specs.Acts.{act_of}
use Rattle.strm_machine.specs.declared.acts.NamedEnd.{NamedEnd}
use Rattle.strm_machine.specs.declared.acts.EndAct.TheVariants.{Operate}
use Rattle.strm_machine.specs.declared.acts.Act.TheVariants.{OnEnd}
use Rattle.strm_machine.specs.declared.streams.Side.{Side}
use Rattle.strm_machine.specs.declared.streams.Operation.{Operation}
use Rattle.strm_machine.specs.declared.steps.Step.{Step}

-- a read or write that nothing refuses finds an open one on the other side of stream s, and both have
-- items left: it asks to move as many as both have, at once
pub record AsksToMove (state : State) (step : Step) (s : ℕ) : Type 0 where
  -- the step reads or writes: the side, the end that a handle names, the place and the count
  pub side : Side
  pub end : NamedEnd
  pub address : ℕ
  pub count : ℕ
  pub does : act_of step ≡ OnEnd side end (Operate address count)
  pub unrefused : refusal state (act_of step) ≡ None
  -- the end is one of stream s
  pub stream : stream_named (named state end) ≡ s
  -- its operation as it begins: the count of the step, or one for a future
  pub mine : Operation
  pub begins : mine ≡ begun end.guest address (items_asked end.ty count)
  pub asks : 0 < mine.left
  -- the other end is there, its operation is open, and that has items left
  pub theirs : Operation
  pub there : is_gone (end_of (opposite side) (stream_at state s)).owner ≡ false
  pub waits : (end_of (opposite side) (stream_at state s)).operation ≡ Some theirs
  pub opened : theirs.is_open ≡ true
  pub left : 0 < theirs.left

-- the next n items of a write on stream s, in its guest's memory from its address on; none where one
-- of them is none
abbrev pub items_next : State → ℕ → Operation → ℕ → Option (List (List ℤ))
items_next state s write n =
    items_at (item_type (stream_at state s).payload) (memory_in state.guests write.guest) write.address n

-- one of the items that a step asks to move on stream s, the next ones of the write, is none
pub record HasBadItem (state : State) (step : Step) (s : ℕ) : Type 0 where
  pub asked : AsksToMove state step s
  pub bad :
      items_next state s (write_of asked.side asked.mine asked.theirs)
      (min asked.mine.left asked.theirs.left) ≡ None
