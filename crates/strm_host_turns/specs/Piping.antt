-- What the two polls of a pipe's round do to what they touch: the round's parts without the rest of the
-- world. Ours.
use Rattle.std.specs.Prelude.{◌≡◌, ◌≢◌, ◌⊎◌, ℕ, true, false, ◌||◌, List, [], ◌++◌, length, take, drop, None, Result, Ok, Err}
use Rattle.strm_codes.specs.declared.codes.TransmitKind.{TransmitKind}
use Rattle.strm_buffers.specs.declared.answers.Answer.{Answer}
use Rattle.strm_buffers.specs.declared.answers.Answer.TheVariants as answers
use Rattle.strm_buffers.specs.declared.answers.ReaderSaid.{ReaderSaid}
use Rattle.strm_buffers.specs.HostRules.{breaks_as_writer, breaks_as_reader, writer_breaks}
use Rattle.strm_buffers.specs.Listing.{Item}
use Rattle.strm_buffers.specs.Said.{WriterSaid}
use Rattle.strm_buffers.specs.Tells.{WriterTells, ReaderTells, PollsWriter, KeepsWriter, PollsReader, KeepsReader, writer_given}
use Rattle.strm_machine.specs.declared.streams.Consumer.{Consumer}
use Rattle.strm_machine.specs.declared.streams.Producer.{Producer}
use Rattle.strm_machine.specs.declared.streams.Stream.{Stream}
use Rattle.strm_host_machine.specs.Polls.{is_failed}
use Rattle.strm_host_machine.specs.Piping.{is_resting}
use Rattle.strm_host_machine.specs.WriterTurn.{is_last}
use Rattle.strm_host_machine.specs.Settling.{with_some_received, since_after}
use Rattle.strm_host_turns.specs.WriterTurns.{writer_verdict_by}
use Rattle.strm_host_turns.specs.declared.reader_turns.ReaderStops.{ReaderStops}
use Rattle.strm_host_turns.specs.declared.reader_turns.ReaderStops.TheVariants as reader_stops
use Rattle.strm_host_turns.specs.declared.writer_turns.WriterStops.{WriterStops}
use Rattle.strm_host_turns.specs.declared.writer_turns.WriterStops.TheVariants.{Failed, OutOfMemory, Broke}

-- FETCHING

-- what a fetch touches: what is kept of the host writer, and of its items, and what it tells
pub record Fetching : Type 0 where
  pub producer : Producer
  pub kept : List Item
  pub tells : WriterTells

-- these
abbrev pub fetching : Producer → List Item → WriterTells → Fetching
fetching producer kept tells = record { producer = producer; kept = kept; tells = tells }

-- one poll with no stated room, which was not asked to finish: all that it produced is marked
pub record IsFetched (old told : WriterTells) (said : WriterSaid) : Type 0 where
  pub polls : PollsWriter old told said said.items
  pub room : said.room ≡ None
  pub finish : said.finish ≡ false

-- such a poll, by what it produced and answered
abbrev pub FetchedSo : WriterTells → WriterTells → List Item → Answer → Type 0
FetchedSo old told items answer =
    IsFetched old told (record { room = None; finish = false; payload = old.payload; items = items; answer = answer })

-- what comes of it
abbrev pub fetch_verdict : TransmitKind → Answer → ℕ → Result (Unit {0}) WriterStops
fetch_verdict kind answer produced = writer_verdict_by (is_failed answer) (writer_breaks kind answer None false produced)

-- after a poll with this record, that goes on: all its items are kept
abbrev pub fetching_done : Fetching → WriterSaid → WriterTells → Fetching
fetching_done old said told = record {
  producer = record old.producer { over = old.producer.over || is_last said.answer; holding = false };
  kept = said.items;
  tells = told;
}

-- a poll that goes on: it didn't fail, and kept the rules
pub record FetchGoes (kind : TransmitKind) (old new : Fetching) (said : WriterSaid) : Type 0 where
  pub polled : IsFetched old.tells new.tells said
  pub failed : is_failed said.answer ≡ false
  pub broke : breaks_as_writer kind said ≡ false
  pub after : new ≡ fetching_done old said new.tells

-- a poll that failed
pub record FetchFails (old new : Fetching) (said : WriterSaid) : Type 0 where
  pub polled : IsFetched old.tells new.tells said
  pub failed : said.answer ≡ answers.Failed
  pub after : new ≡ record old { tells = new.tells }

-- a poll that didn't fail, and broke the rules
pub record FetchBreaks (kind : TransmitKind) (old new : Fetching) (said : WriterSaid) : Type 0 where
  pub polled : IsFetched old.tells new.tells said
  pub failed : is_failed said.answer ≡ false
  pub broke : breaks_as_writer kind said ≡ true
  pub after : new ≡ record old { tells = new.tells }

-- a poll for which memory had run out adds no record
pub record FetchWants (old new : Fetching) : Type 0 where
  pub tells : KeepsWriter old.tells new.tells
  pub after : new ≡ record old { tells = new.tells }

-- the fetch from a host writer, by what came of it
abbrev pub Fetches : Result (Unit {0}) WriterStops → TransmitKind → Fetching → Fetching → Type 0
Fetches (Ok v) kind old new = (said : WriterSaid) × FetchGoes kind old new said
Fetches (Err Failed) kind old new = (said : WriterSaid) × FetchFails old new said
Fetches (Err Broke) kind old new = (said : WriterSaid) × FetchBreaks kind old new said
Fetches (Err OutOfMemory) kind old new = FetchWants old new

-- OFFERING

-- what an offer touches: the stream, what is kept of its host reader and of the items for it, and what its
-- two host ends tell
pub record Offering : Type 0 where
  pub stream : Stream
  pub consumer : Consumer
  pub kept : List Item
  pub writer : WriterTells
  pub reader : ReaderTells

-- these
abbrev pub offering : Stream → Consumer → List Item → WriterTells → ReaderTells → Offering
offering stream consumer kept writer reader =
    record { stream = stream; consumer = consumer; kept = kept; writer = writer; reader = reader }

-- what is held: what is kept, and then what the writer holds itself
abbrev pub held_in_offering : Offering → List Item
held_in_offering old = old.kept ++ old.writer.holds

-- one poll that was offered these items, so many being taken since the reader was last ready, and was not
-- asked to finish
pub record PassedSo (old told : ReaderTells) (items : List Item) (since : ℕ) (said : ReaderSaid) : Type 0 where
  pub polls : PollsReader old told said (take said.taken items)
  pub offered : said.offered ≡ length items
  pub after : said.since ≡ since
  pub finish : said.finish ≡ false
  -- each item of a list is one
  pub good : said.bad ≡ false

-- one that was offered all that is held
abbrev pub IsPassed : Offering → ReaderTells → ReaderSaid → Type 0
IsPassed old told said = PassedSo old.reader told (held_in_offering old) old.consumer.since said

-- after a poll with this record, that goes on: the items that were taken are gone, and the writer holds
-- nothing
abbrev pub offering_passed : Offering → ReaderSaid → ReaderTells → Offering
offering_passed old said told = record {
  stream = with_some_received old.stream said.taken;
  consumer = record old.consumer {
    since = since_after said.answer old.consumer.since said.taken;
    resting = is_resting said.answer;
  };
  kept = drop said.taken (held_in_offering old);
  writer = writer_given old.writer None;
  reader = told;
}

-- after one that stops the step
abbrev pub offering_gathered : Offering → ReaderTells → Offering
offering_gathered old told = record old { kept = held_in_offering old; writer = writer_given old.writer None; reader = told }

-- a poll that goes on, and answers so: it didn't fail, found no bad item, and kept the rules
pub record OfferGoes (old new : Offering) (answer : Answer) (said : ReaderSaid) : Type 0 where
  pub polled : IsPassed old new.reader said
  pub failed : is_failed said.answer ≡ false
  pub good : said.bad ≡ false
  pub broke : breaks_as_reader old.stream.kind said ≡ false
  pub says : answer ≡ said.answer
  pub after : new ≡ offering_passed old said new.reader

-- a poll that failed
pub record OfferFails (old new : Offering) (said : ReaderSaid) : Type 0 where
  pub polled : IsPassed old new.reader said
  pub failed : said.answer ≡ answers.Failed
  pub after : new ≡ offering_gathered old new.reader

-- a poll that didn't fail, and asked for an item that is none
pub record OfferSpoils (old new : Offering) (said : ReaderSaid) : Type 0 where
  pub polled : IsPassed old new.reader said
  pub failed : is_failed said.answer ≡ false
  pub bad : said.bad ≡ true
  pub after : new ≡ offering_gathered old new.reader

-- a poll that broke the rules, and did neither
pub record OfferBreaks (old new : Offering) (said : ReaderSaid) : Type 0 where
  pub polled : IsPassed old new.reader said
  pub failed : is_failed said.answer ≡ false
  pub good : said.bad ≡ false
  pub broke : breaks_as_reader old.stream.kind said ≡ true
  pub after : new ≡ offering_gathered old new.reader

-- a writer that holds items, and gave none of them
pub record HoldsStill (old new : WriterTells) : Type 0 where
  pub some : old.holds ≢ []
  pub same : new ≡ old

-- what a writer tells where memory had run out for what is held: it holds its items still, or gave them all
abbrev pub GathersNone : WriterTells → WriterTells → Type 0
GathersNone old new = HoldsStill old new ⊎ (new ≡ writer_given old None)

-- memory had run out before the poll: the writer's items were not kept, and the reader was not polled
pub record Ungathered (old new : Offering) : Type 0 where
  pub writer : HoldsStill old.writer new.writer
  pub reader : new.reader ≡ old.reader

-- it had run out behind that: the writer gave all that it held, and the reader has no record more
pub record Unoffered (old new : Offering) : Type 0 where
  pub writer : new.writer ≡ writer_given old.writer None
  pub reader : KeepsReader old.reader new.reader

-- an offer for which memory had run out adds no record
pub record OfferRunsOut (old new : Offering) : Type 0 where
  pub ends : Ungathered old new ⊎ Unoffered old new
  pub stream : new.stream ≡ old.stream
  pub consumer : new.consumer ≡ old.consumer

-- the offer to a host reader, by what came of it
abbrev pub Offers : Result Answer ReaderStops → Offering → Offering → Type 0
Offers (Ok answer) old new = (said : ReaderSaid) × OfferGoes old new answer said
Offers (Err reader_stops.Failed) old new = (said : ReaderSaid) × OfferFails old new said
Offers (Err reader_stops.BadItem) old new = (said : ReaderSaid) × OfferSpoils old new said
Offers (Err reader_stops.Broke) old new = (said : ReaderSaid) × OfferBreaks old new said
Offers (Err reader_stops.OutOfMemory) old new = OfferRunsOut old new
