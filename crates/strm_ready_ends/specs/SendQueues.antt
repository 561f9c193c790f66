-- What a ready host writer is: what it tells as a host writer, and what each of its calls does. Ours: wasmtime's
-- producers are code of the host's that is asked; this one is fed before it is asked, and holds what it was fed.
use Rattle.std.specs.Prelude.{◌≡◌, ℕ, ◌+◌, ◌==◌, Bool, true, false, ◌&&◌, ◌||◌, not, if◌then◌else◌, List, [], ◌∷◌, ◌++◌, length, map, nat_le, Option, None, Result, Ok, Err}
use Rattle.strm_codes.specs.Layout.{item_type}
use Rattle.strm_codes.specs.declared.codes.TransmitKind.{TransmitKind}
use Rattle.strm_codes.specs.declared.codes.TransmitKind.TheVariants.{Stream, Future}
use Rattle.strm_codes.specs.declared.payloads.Payload.{Payload}
use Rattle.strm_buffers.specs.Listing.{Item, items_in}
use Rattle.strm_buffers.specs.Said.{WriterSaid, past_room}
use Rattle.strm_buffers.specs.Tells.{WriterTells}
use Rattle.strm_buffers.specs.declared.answers.Answer.{Answer}
use Rattle.strm_buffers.specs.declared.answers.Answer.TheVariants.{Pending, Cancelled, Dropped}
use Rattle.strm_ready_ends.specs.Wholes.{are_whole}
use Rattle.strm_ready_ends.specs.declared.errors.FeedError.{FeedError}
use Rattle.strm_ready_ends.specs.declared.errors.FeedError.TheVariants.{Ended, WrongCount, BadItems, OutOfMemory}
use Rattle.strm_ready_ends.specs.declared.polls.EmptyPoll.{EmptyPoll}

-- its type, the items that it was fed and has not given, whether no more will come, whether its stream is gone,
-- and the records that are not forgotten yet
pub record SendQueue : Type 0 where
  pub kind : TransmitKind
  pub payload : Payload
  pub items : List Item
  pub ended : Bool
  pub closed : Bool
  pub said : List WriterSaid

-- what it tells: it holds its items, does not hear what is passed on to it, and does not fail
abbrev pub ready_tells : SendQueue → WriterTells
ready_tells queue = record {
  kind = queue.kind;
  payload = queue.payload;
  said = queue.said;
  holds = queue.items;
  faults = 0;
  closed = queue.closed;
  heard = None;
}

-- before anything was fed
abbrev pub unfed : TransmitKind → Payload → SendQueue
unfed kind payload =
    record { kind = kind; payload = payload; items = []; ended = false; closed = false; said = [] }

-- A FEED

-- of a future, not of a stream
abbrev pub is_future : TransmitKind → Bool
is_future Stream = false
is_future Future = true

-- no more may be fed
abbrev pub is_shut : SendQueue → Bool
is_shut queue = queue.ended || queue.closed

-- so many items may not be fed behind so many that are held: a future is fed one
abbrev pub is_wrong_count : TransmitKind → ℕ → ℕ → Bool
is_wrong_count Stream held count = nat_le 4294967295 (held + count)
is_wrong_count Future held count = not (held == 0) || not (count == 1)

-- these items come behind the others; a future ends by its one
abbrev pub fed : SendQueue → List Item → SendQueue
fed queue items = record queue { items = queue.items ++ items; ended = is_future queue.kind }

-- nothing refuses a feed of these bytes as so many items
pub record MayFeed (queue : SendQueue) (bytes : List ℕ) (count : ℕ) : Type 0 where
  pub unshut : is_shut queue ≡ false
  pub few : is_wrong_count queue.kind (length queue.items) count ≡ false
  pub good : are_whole queue.payload bytes count ≡ true

-- what comes of it: the items lie behind the others; or, and then nothing has changed, it was ended, or the count
-- is wrong, or the bytes are not so many items, or memory had run out
abbrev pub Feeds : SendQueue → SendQueue → List ℕ → ℕ → Result (Unit {0}) FeedError → Type 0
Feeds old new bytes count (Ok _) =
    MayFeed old bytes count × (new ≡ fed old (items_in (item_type old.payload) bytes 0 count))
Feeds old new bytes count (Err Ended) = (is_shut old ≡ true) × (new ≡ old)
Feeds old new bytes count (Err WrongCount) =
    (is_shut old ≡ false) × (is_wrong_count old.kind (length old.items) count ≡ true) × (new ≡ old)
Feeds old new bytes count (Err BadItems) =
    (is_shut old ≡ false) × (are_whole old.payload bytes count ≡ false) × (new ≡ old)
Feeds old new bytes count (Err OutOfMemory) = MayFeed old bytes count × (new ≡ old)

-- THE END

-- a stream ends when it is told to, and a future by its one item alone
abbrev pub with_end : SendQueue → SendQueue
with_end queue = record queue { ended = queue.ended || not (is_future queue.kind) }

-- A POLL, which comes only where it holds nothing

-- what it answers: that there is no more, where a stream ended; else that it stopped, where it was asked to
-- finish; else that there is nothing for now
abbrev pub empty_answer : TransmitKind → Bool → Bool → Answer
empty_answer kind ended finish =
    if not (is_future kind) && ended then Dropped else (if finish then Cancelled else Pending)

-- its record
abbrev pub empty_record : SendQueue → Option ℕ → Bool → WriterSaid
empty_record queue room finish = record {
  room = room;
  finish = finish;
  payload = queue.payload;
  items = [];
  answer = empty_answer queue.kind queue.ended finish;
}

-- after a poll with this room
abbrev pub polled : SendQueue → Option ℕ → Bool → SendQueue
polled queue room finish = record queue { said = queue.said ++ empty_record queue room finish ∷ [] }

-- WHAT ELSE IS DONE

-- as many items as there is room for were given
abbrev pub given : SendQueue → Option ℕ → SendQueue
given queue room = record queue { items = past_room room queue.items }

-- its records are forgotten
abbrev pub forgotten : SendQueue → SendQueue
forgotten queue = record queue { said = [] }

-- its stream is gone: what it held is given up
abbrev pub shut : SendQueue → SendQueue
shut queue = record queue { closed = true; items = [] }

-- HOW RECORDS ARE KEPT

-- the record of a poll of a writer of this payload
abbrev pub said_of : Payload → EmptyPoll → WriterSaid
said_of payload poll =
    record { room = poll.room; finish = poll.finish; payload = payload; items = []; answer = poll.answer }

-- and of all polls
abbrev pub said_kept : Payload → List EmptyPoll → List WriterSaid
said_kept payload polls = map (said_of payload) polls
