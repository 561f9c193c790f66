-- What one turn of a host writer does to what it touches: a writer turn without the rest of the
-- world. Ours.
use Rattle.std.specs.Prelude.{◌≡◌, ℕ, ◌≤◌, Bool, true, false, ◌||◌, List, [], ◌∷◌, length, take, drop, Option, Some, Result, Ok, Err}
use Rattle.strm_codes.specs.declared.codes.TransmitKind.{TransmitKind}
use Rattle.strm_codes.specs.declared.codes.StreamResult.{StreamResult}
use Rattle.strm_codes.specs.declared.codes.StreamResult.TheVariants.{Completed, Dropped}
use Rattle.strm_buffers.specs.declared.answers.Answer.{Answer}
use Rattle.strm_buffers.specs.declared.answers.Answer.TheVariants as answers
use Rattle.strm_buffers.specs.Listing.{Item}
use Rattle.strm_buffers.specs.Said.{WriterSaid}
use Rattle.strm_buffers.specs.HostRules.{breaks_as_writer, writer_breaks}
use Rattle.strm_buffers.specs.Tells.{WriterTells, KeepsWriter, writer_given}
use Rattle.strm_machine.specs.State.{Guest}
use Rattle.strm_machine.specs.declared.streams.Side.TheVariants.{Reading}
use Rattle.strm_machine.specs.declared.streams.Operation.{Operation}
use Rattle.strm_machine.specs.declared.streams.Producer.{Producer}
use Rattle.strm_machine.specs.declared.streams.Stream.{Stream}
use Rattle.strm_host_machine.specs.Polls.{is_failed}
use Rattle.strm_host_machine.specs.WriterTurn.{lowered_items, is_last, produced_result}
use Rattle.strm_host_machine.specs.Settling.{moved_on}
use Rattle.strm_host_machine.specs.Attaching.{has_items}
use Rattle.strm_host_turns.specs.WriterPolls.{IsPolledForRead}
use Rattle.strm_host_turns.specs.declared.writer_turns.WriterStops.{WriterStops}
use Rattle.strm_host_turns.specs.declared.writer_turns.WriterStops.TheVariants.{Failed, OutOfMemory, Broke}

-- what a turn touches: the guests, the stream, what is kept of its host writer, and what that tells
pub record WriterScene : Type 0 where
  pub guests : List Guest
  pub stream : Stream
  pub producer : Producer
  pub tells : WriterTells

-- the scene of these
abbrev pub writer_scene : List Guest → Stream → Producer → WriterTells → WriterScene
writer_scene guests stream producer tells =
    record { guests = guests; stream = stream; producer = producer; tells = tells }

-- THE THREE TURNS

-- the read receives these items, and is settled so, if it is
abbrev pub received_by_read : WriterScene → Operation → List Item → Option StreamResult → WriterScene
received_by_read old read items result = record old {
  guests = lowered_items old.guests old.stream.payload read items;
  stream = moved_on Reading old.stream read (length items) result;
}

-- held items are handed over, as many as there is room for
abbrev pub handed_over : WriterScene → Operation → WriterScene
handed_over old read =
    record (received_by_read old read (take read.left old.tells.holds) (Some Completed)) {
      producer = record old.producer { holding = has_items (drop read.left old.tells.holds) };
      tells = writer_given old.tells (Some read.left);
    }

-- a writer that has no more to come, and holds nothing, is gone
abbrev pub read_ended : WriterScene → Operation → WriterScene
read_ended old read = received_by_read old read [] (Some Dropped)

-- after a poll with this record, that goes on, of a writer that then tells this: what there was room for
-- is received, and the rest is held
abbrev pub poll_produced : WriterScene → Operation → WriterSaid → WriterTells → WriterScene
poll_produced old read said told =
    record (received_by_read old read (take read.left said.items) (produced_result said.answer (drop read.left said.items))) {
      producer = record old.producer {
        over = old.producer.over || is_last said.answer;
        holding = has_items (drop read.left said.items);
      };
      tells = told;
    }

-- where a turn stops, items lie where the read's next ones were to lie, no more than there was room for;
-- the stream and what is kept of the writer are as they were
pub record WriterTurnStopped (old new : WriterScene) (read : Operation) (items : List Item) : Type 0 where
  pub few : length items ≤ read.left
  pub after : new ≡ record old { guests = lowered_items old.guests old.stream.payload read items; tells = new.tells }

-- THE POLL

-- what comes of a poll, by whether the writer failed, and whether it broke the rules
abbrev pub writer_verdict_by : Bool → Bool → Result (Unit {0}) WriterStops
writer_verdict_by true broke = Err Failed
writer_verdict_by false true = Err Broke
writer_verdict_by false false = Ok tt

-- of one for a read that had this answer, and in which so many items were produced
abbrev pub writer_verdict : TransmitKind → Answer → Operation → ℕ → Result (Unit {0}) WriterStops
writer_verdict kind answer read poll_produced =
    writer_verdict_by (is_failed answer) (writer_breaks kind answer (Some read.left) read.asked poll_produced)

-- a poll that goes on: it didn't fail, and kept the rules
pub record WriterGoes (old new : WriterScene) (read : Operation) (said : WriterSaid) : Type 0 where
  pub polled : IsPolledForRead old.tells new.tells read said
  pub failed : is_failed said.answer ≡ false
  pub broke : breaks_as_writer old.stream.kind said ≡ false
  pub after : new ≡ poll_produced old read said new.tells

-- a poll that failed
pub record WriterFails (old new : WriterScene) (read : Operation) (said : WriterSaid) : Type 0 where
  pub polled : IsPolledForRead old.tells new.tells read said
  pub failed : said.answer ≡ answers.Failed
  pub stopped : WriterTurnStopped old new read (take read.left said.items)

-- a poll that didn't fail, and broke the rules
pub record WriterBreaks (old new : WriterScene) (read : Operation) (said : WriterSaid) : Type 0 where
  pub polled : IsPolledForRead old.tells new.tells read said
  pub failed : is_failed said.answer ≡ false
  pub broke : breaks_as_writer old.stream.kind said ≡ true
  pub stopped : WriterTurnStopped old new read (take read.left said.items)

-- a poll for which memory had run out adds no record
pub record WriterRunsOut (old new : WriterScene) (read : Operation) (items : List Item) : Type 0 where
  pub tells : KeepsWriter old.tells new.tells
  pub stopped : WriterTurnStopped old new read items

-- what a poll did, by what came of it
abbrev pub IsWriterPoll : Result (Unit {0}) WriterStops → WriterScene → WriterScene → Operation → Type 0
IsWriterPoll (Ok v) old new read = (said : WriterSaid) × WriterGoes old new read said
IsWriterPoll (Err Failed) old new read = (said : WriterSaid) × WriterFails old new read said
IsWriterPoll (Err Broke) old new read = (said : WriterSaid) × WriterBreaks old new read said
IsWriterPoll (Err OutOfMemory) old new read = (items : List Item) × WriterRunsOut old new read items

-- THE TURN

-- where nothing is held, by whether there is more to come
abbrev pub IsEmptyWriterTurn : Bool → Result (Unit {0}) WriterStops → WriterScene → WriterScene → Operation → Type 0
IsEmptyWriterTurn true result old new read = (result ≡ Ok tt) × (new ≡ read_ended old read)
IsEmptyWriterTurn false result old new read = IsWriterPoll result old new read

-- by what the writer holds
abbrev pub IsHoldingWriterTurn : List Item → Result (Unit {0}) WriterStops → WriterScene → WriterScene → Operation → Type 0
IsHoldingWriterTurn (item ∷ items) result old new read = (result ≡ Ok tt) × (new ≡ handed_over old read)
IsHoldingWriterTurn [] result old new read = IsEmptyWriterTurn old.producer.over result old new read

-- the turn of the host writer for the open read
abbrev pub IsWriterTurn : Result (Unit {0}) WriterStops → WriterScene → WriterScene → Operation → Type 0
IsWriterTurn result old new read = IsHoldingWriterTurn old.tells.holds result old new read
