-- What a ready host reader is: what it tells as a host reader, and what each of its calls does. Ours: wasmtime's
-- consumers are code of the host's that is asked; this one takes what it was granted before, and keeps what it
-- took until that is collected.
use Rattle.std.specs.Prelude.{◌≡◌, ℕ, ◌+◌, ◌-◌, ◌*◌, ◌<◌, ◌≤◌, ◌==◌, min, max, Bool, true, false, ◌&&◌, ◌||◌, not, nat_lt, nat_le, if◌then◌else◌, List, [], ◌∷◌, ◌++◌, length, drop, Some, None, Result, Ok, Err}
use Rattle.strm_codes.specs.Layout.{item_type}
use Rattle.strm_codes.specs.ItemTypes.{item_size}
use Rattle.strm_codes.specs.declared.codes.TransmitKind.{TransmitKind}
use Rattle.strm_codes.specs.declared.payloads.Payload.{Payload}
use Rattle.strm_memory.specs.Items.{good_items}
use Rattle.strm_buffers.specs.Listing.{Item, items_in}
use Rattle.strm_buffers.specs.Offers.{Offered, items_lent, after_taking}
use Rattle.strm_buffers.specs.Tells.{ReaderTells, first_lent, reader_record}
use Rattle.strm_buffers.specs.declared.answers.Answer.{Answer}
use Rattle.strm_buffers.specs.declared.answers.Answer.TheVariants.{Pending, Completed, Cancelled, Dropped}
use Rattle.strm_buffers.specs.declared.answers.ReaderSaid.{ReaderSaid}
use Rattle.strm_ready_ends.specs.Waiting.{Waiting}
use Rattle.strm_ready_ends.specs.SendQueues.{is_future}
use Rattle.strm_ready_ends.specs.declared.errors.GrantError.{GrantError}
use Rattle.strm_ready_ends.specs.declared.errors.GrantError.TheVariants.{Ended, TooMany, OutOfMemory}

-- its type, the items that it took and that were not collected, how many it may take yet, whether it wants no
-- more, whether its stream is gone, and the records that are not forgotten yet
pub record ReceiveQueue : Type 0 where
  pub kind : TransmitKind
  pub payload : Payload
  pub items : List Item
  pub credit : ℕ
  pub ended : Bool
  pub closed : Bool
  pub said : List ReaderSaid

-- what it tells: of the items that it took, those that it keeps; it does not hear what it is granted, and does not
-- fail
abbrev pub ready_reader_tells : ReceiveQueue → ReaderTells
ready_reader_tells queue = record {
  kind = queue.kind;
  payload = queue.payload;
  said = queue.said;
  holds = Some queue.items;
  faults = 0;
  closed = queue.closed;
  heard = None;
}

-- before it was granted anything
abbrev pub ungranted : TransmitKind → Payload → ReceiveQueue
ungranted kind payload =
    record { kind = kind; payload = payload; items = []; credit = 0; ended = false; closed = false; said = [] }

-- A GRANT

-- it takes no more, whatever it is granted
abbrev pub takes_no_more : ReceiveQueue → Bool
takes_no_more queue = queue.ended || queue.closed

-- with so many items more it could come to keep more than can be counted
abbrev pub is_too_many : ReceiveQueue → ℕ → Bool
is_too_many queue count = nat_le 4294967295 (length queue.items + queue.credit + count)

-- it may take so many items more
abbrev pub granted : ReceiveQueue → ℕ → ReceiveQueue
granted queue count = record queue { credit = queue.credit + count }

-- what comes of a grant: it may take so many more; or, and then nothing has changed, it takes no more, or there are
-- too many, or memory had run out
abbrev pub Grants : ReceiveQueue → ReceiveQueue → ℕ → Result (Unit {0}) GrantError → Type 0
Grants old new count (Ok _) =
    (takes_no_more old ≡ false) × (is_too_many old count ≡ false) × (new ≡ granted old count)
Grants old new count (Err Ended) = (takes_no_more old ≡ true) × (new ≡ old)
Grants old new count (Err TooMany) = (takes_no_more old ≡ false) × (is_too_many old count ≡ true) × (new ≡ old)
Grants old new count (Err OutOfMemory) =
    (takes_no_more old ≡ false) × (is_too_many old count ≡ false) × (new ≡ old)

-- THE END

-- what a future's reader may take from then on: the one item that is owed to it, where it has none
abbrev pub owed : ReceiveQueue → ℕ
owed queue = if length queue.items == 0 then max queue.credit 1 else queue.credit

-- it wants no more: a stream's reader takes none from then on
abbrev pub finished : ReceiveQueue → ReceiveQueue
finished queue = record queue { ended = true; credit = if is_future queue.kind then owed queue else 0 }

-- A POLL

-- what it answers: that it is done with a stream; else that it is ready again; else that it stopped, where it was
-- asked to finish; else that it takes none for now
abbrev pub answer_by : Bool → Bool → Bool → Answer
answer_by done ready finish =
    if done then Dropped else (if ready then Completed else (if finish then Cancelled else Pending))

-- with so much credit left: it is done with a stream where it wants no more and may take none; it is ready again
-- where it took some, or where a stream offered none and it may take some
abbrev pub taking_answer : TransmitKind → Bool → ℕ → ℕ → ℕ → Bool → Answer
taking_answer kind ended credit offered taken finish =
    answer_by (not (is_future kind) && ((credit == 0) && ended))
    (nat_lt 0 taken || (not (is_future kind) && ((offered == 0) && nat_lt 0 credit))) finish

-- the record of a poll in which it took so many
abbrev pub taking_record : ReceiveQueue → ℕ → ℕ → Bool → ℕ → Bool → ReaderSaid
taking_record queue offered since finish taken bad = record {
  offered = offered;
  since = since;
  finish = finish;
  taken = taken;
  bad = bad;
  answer = taking_answer queue.kind queue.ended (queue.credit - taken) offered taken finish;
}

-- after a poll that took these items and has this record
abbrev pub took : ReceiveQueue → List Item → ReaderSaid → ReceiveQueue
took queue items said = record queue {
  items = queue.items ++ items;
  credit = queue.credit - said.taken;
  said = queue.said ++ said ∷ [];
}

-- a poll: it takes what it may, up to an item that is none, and answers by what is left of its credit
pub record Takes (old new : ReceiveQueue) (before after : Offered) (finish : Bool) (answer : Answer) : Type 0 where
  pub takes : after ≡ after_taking old.credit before
  pub answers :
      answer
      ≡ taking_answer old.kind old.ended (old.credit - after.taken) (items_lent before.source) after.taken finish
  pub leaves :
      new
      ≡ took old (first_lent (item_type before.payload) before.source after.taken)
      (reader_record before after finish answer)

-- a poll of so many items that lie in bytes from a place on, which asks for none that is bad: it takes what it may of
-- the good ones at the front
pub record TakesGood (old new : ReceiveQueue) (bytes : List ℕ) (from offered since : ℕ) (finish : Bool) (said : ReaderSaid) : Type 0 where
  pub taken :
      said.taken ≡ length (good_items (item_type old.payload) (drop from bytes) (min offered old.credit))
  pub record_is : said ≡ taking_record old offered since finish said.taken false
  pub leaves : new ≡ took old (items_in (item_type old.payload) bytes from said.taken) said

-- WHAT ELSE IS DONE

-- the first so many items were collected
abbrev pub collected : ReceiveQueue → ℕ → ReceiveQueue
collected queue count = record queue { items = drop count queue.items }

-- its records are forgotten
abbrev pub reader_forgotten : ReceiveQueue → ReceiveQueue
reader_forgotten queue = record queue { said = [] }

-- its stream is gone: what it took stays, to be collected
abbrev pub reader_shut : ReceiveQueue → ReceiveQueue
reader_shut queue = record queue { closed = true }

-- HOW IT IS KEPT

-- there is memory for what it may take yet, and all of that can be counted
pub record HasRoomFor (kept : Waiting) (credit : ℕ) : Type 0 where
  pub room : item_size (item_type kept.payload) * credit ≤ kept.room
  pub few : length kept.items + credit < 4294967295
