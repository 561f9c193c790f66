-- Where an item that a step asks to move is none, among host ends: by a read or write that meets one of a
-- guest, or by a host reader that is polled for a write, in its call or in a drive round. What a host
-- writer hands over, to a guest or along a pipe, are items, so no other step asks for one that is none.
-- Canonical ABI, `canon stream.write` and `canon future.write`: an item is lifted from the writer's memory,
-- and a char that is no Unicode scalar value traps.
use Rattle.std.specs.Prelude.{◌≡◌, ℕ, ◌+◌, ◌<◌, true, false, if◌then◌else◌, List, ◌∷◌, length, Some, None}
use Rattle.strm_buffers.specs.declared.answers.ReaderSaid.{ReaderSaid}
use Rattle.strm_machine.specs.State.{consumer_at, is_host}
use Rattle.strm_machine.specs.Sides.{opposite, end_of, with_operation}
use Rattle.strm_machine.specs.Meetings.{begun}
use Rattle.strm_machine.specs.Tests.{named, stream_named, items_asked}
use Rattle.strm_machine.specs.Asked.{items_next, HasBadItem}
use Rattle.strm_machine.specs.Acts.{act_of}
use Rattle.strm_machine.specs.declared.acts.NamedEnd.{NamedEnd}
use Rattle.strm_machine.specs.declared.acts.EndAct.TheVariants.{Operate}
use Rattle.strm_machine.specs.declared.acts.Act.TheVariants.{OnEnd, Drive}
use Rattle.strm_machine.specs.declared.replies.Reply.TheVariants as replies
use Rattle.strm_machine.specs.declared.streams.Operation.{Operation}
use Rattle.strm_machine.specs.declared.streams.Owner.TheVariants.{Host}
use Rattle.strm_machine.specs.declared.streams.Side.TheVariants.{Writing}
use Rattle.strm_machine.specs.declared.steps.Step.{Step}
use Rattle.strm_host_machine.specs.Ends.{polled_reader}
use Rattle.strm_host_machine.specs.World.{World, stream_in, reader_at, with_reader, with_stream_in}
use Rattle.strm_host_machine.specs.Outcomes.{Goes}
use Rattle.strm_host_machine.specs.Polls.{is_failed, is_reader_poll, tells_truly}
use Rattle.strm_host_machine.specs.ReaderTurn.{lifted_items}
use Rattle.strm_host_machine.specs.Driving.{driven, numbers_from}
use Rattle.strm_host_machine.specs.HostRefusals.{refusal_in}

-- BY A GUEST

-- a read or write meets an open one of a guest, and one of the items that it asks to move at once is none
pub record GuestAsksBad (world : World) (step : Step) (s : ℕ) : Type 0 where
  pub asks : HasBadItem world.state step s
  pub unhosted : is_host (end_of (opposite asks.asked.side) (stream_in world s)).owner ≡ false

-- BY A HOST READER

-- how many items a poll asked for: those that were taken, and one more that is none
abbrev pub asked_by : ReaderSaid → ℕ
asked_by said = if said.bad then said.taken + 1 else said.taken

-- the host reader of stream s is polled for its open write, and does not fail; of the items that it asks
-- for, which are the write's next ones, one is none
pub record ReaderAsksBad (world : World) (s : ℕ) (write : Operation) : Type 0 where
  pub reader : ℕ
  pub owner : (stream_in world s).reader.owner ≡ Host reader
  -- its next record, which is of this poll
  pub said : ReaderSaid
  pub more : List ReaderSaid
  pub next : (reader_at world reader).coming ≡ said ∷ more
  pub polled : is_reader_poll write.left (consumer_at world.state reader).since write.asked said ≡ true
  pub truly : tells_truly write.left (lifted_items world.state.guests (stream_in world s).payload write) said ≡ true
  pub answered : is_failed said.answer ≡ false
  pub bad : items_next world.state s write (asked_by said) ≡ None

-- the world in which a write on stream s is open
abbrev pub with_write : World → ℕ → Operation → World
with_write world s write = with_stream_in world s (with_operation Writing (stream_in world s) write)

-- so in the call of a write that nothing refuses
pub record WriteAsksBad (world : World) (step : Step) (s : ℕ) : Type 0 where
  pub end : NamedEnd
  pub address : ℕ
  pub count : ℕ
  pub does : act_of step ≡ OnEnd Writing end (Operate address count)
  pub unrefused : refusal_in world (act_of step) ≡ None
  pub stream : stream_named (named world.state end) ≡ s
  pub write : Operation
  pub begins : write ≡ begun end.guest address (items_asked end.ty count)
  pub asks : ReaderAsksBad (with_write world s write) s write

-- and in a drive round, at the turn of stream s
pub record DriveAsksBad (world : World) (step : Step) (s : ℕ) : Type 0 where
  pub does : act_of step ≡ Drive
  pub there : s < length world.state.streams
  -- the world after the turns of the streams before it
  pub turn : World
  pub before : driven world (numbers_from 0 s) ≡ Goes replies.Done turn
  pub unhosted : is_host (stream_in turn s).writer.owner ≡ false
  pub write : Operation
  pub waits : (stream_in turn s).writer.operation ≡ Some write
  pub opened : write.is_open ≡ true
  pub asks : ReaderAsksBad turn s write

-- BY A STEP

-- one of the items that a step asks to move on stream s is none
pub data AsksBadItem (world : World) (step : Step) (s : ℕ) : Type 0 where
  ByGuest : GuestAsksBad world step s → AsksBadItem world step s
  InCall : WriteAsksBad world step s → AsksBadItem world step s
  InDrive : DriveAsksBad world step s → AsksBadItem world step s

-- what the host ends tell then: as before, but for the record of the host reader that asked, and the items
-- that it took
abbrev pub after_asking : (world : World) (s : ℕ) (write : Operation) → ReaderAsksBad world s write → World
after_asking world s write asks =
    let took = lifted_items world.state.guests (stream_in world s).payload write asks.said.taken in
    with_reader world asks.reader (polled_reader (reader_at world asks.reader) took asks.more)

-- nothing is moved: the world at the bad item
abbrev pub stands_at : (world : World) (step : Step) (s : ℕ) → AsksBadItem world step s → World
stands_at world step s (ByGuest guest) = world
stands_at world step s (InCall call) = after_asking (with_write world s call.write) s call.write call.asks
stands_at world step s (InDrive drive) = after_asking drive.turn s drive.write drive.asks
