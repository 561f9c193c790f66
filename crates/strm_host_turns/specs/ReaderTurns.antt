-- What one turn of a host reader does to what it touches: a reader turn without the rest of the world.
-- Ours.
use Rattle.std.specs.Prelude.{◌≡◌, Bool, true, false, List, Result, Ok, Err}
use Rattle.strm_codes.specs.declared.codes.TransmitKind.{TransmitKind}
use Rattle.strm_buffers.specs.declared.answers.Answer.TheVariants as answers
use Rattle.strm_buffers.specs.declared.answers.ReaderSaid.{ReaderSaid}
use Rattle.strm_buffers.specs.HostRules.{breaks_as_reader}
use Rattle.strm_buffers.specs.Tells.{ReaderTells, PollsReader, KeepsReader}
use Rattle.strm_machine.specs.State.{Guest}
use Rattle.strm_machine.specs.declared.streams.Consumer.{Consumer}
use Rattle.strm_machine.specs.declared.streams.Side.TheVariants.{Writing}
use Rattle.strm_machine.specs.declared.streams.Operation.{Operation}
use Rattle.strm_machine.specs.declared.streams.Stream.{Stream}
use Rattle.strm_host_machine.specs.ReaderTurn.{lifted_items}
use Rattle.strm_host_machine.specs.Polls.{is_failed}
use Rattle.strm_host_machine.specs.Settling.{result_of, moved_on, since_after}
use Rattle.strm_host_turns.specs.ReaderPolls.{IsBadBehind}
use Rattle.strm_host_turns.specs.declared.reader_turns.ReaderStops.{ReaderStops}
use Rattle.strm_host_turns.specs.declared.reader_turns.ReaderStops.TheVariants.{Failed, OutOfMemory, BadItem, Broke}

-- what a turn touches: the guests, whose bytes it reads, the stream, what is kept of its host reader, and
-- what that tells
pub record ReaderScene : Type 0 where
  pub guests : List Guest
  pub stream : Stream
  pub consumer : Consumer
  pub tells : ReaderTells

-- these
abbrev pub reader_scene : List Guest → Stream → Consumer → ReaderTells → ReaderScene
reader_scene guests stream consumer tells =
    record { guests = guests; stream = stream; consumer = consumer; tells = tells }

-- one poll that was offered the items that the write has left, asked to finish if the write was
pub record IsPolledForWrite (old : ReaderScene) (told : ReaderTells) (write : Operation) (said : ReaderSaid) : Type 0 where
  pub polls : PollsReader old.tells told said (lifted_items old.guests old.stream.payload write said.taken)
  pub offered : said.offered ≡ write.left
  pub since : said.since ≡ old.consumer.since
  pub finish : said.finish ≡ write.asked
  -- a bad item that it asked for is the next one
  pub next : said.bad ≡ true → IsBadBehind old.guests old.stream.payload write said.taken

-- after a poll with this record, that goes on: the write lost the items that were taken
abbrev pub poll_took : ReaderScene → Operation → ReaderSaid → ReaderTells → ReaderScene
poll_took old write said told = record old {
  stream = moved_on Writing old.stream write said.taken (result_of said.answer);
  consumer = record old.consumer { since = since_after said.answer old.consumer.since said.taken };
  tells = told;
}

-- after one that stops the step
abbrev pub reader_turn_stopped : ReaderScene → ReaderTells → ReaderScene
reader_turn_stopped old told = record old { tells = told }

-- what comes of a poll, by whether the host reader failed, asked for an item that is none, or broke the
-- rules
abbrev pub reader_verdict_by : Bool → Bool → Bool → Result (Unit {0}) ReaderStops
reader_verdict_by true bad broke = Err Failed
reader_verdict_by false true broke = Err BadItem
reader_verdict_by false false true = Err Broke
reader_verdict_by false false false = Ok tt

-- of one with this record
abbrev pub reader_verdict : TransmitKind → ReaderSaid → Result (Unit {0}) ReaderStops
reader_verdict kind said = reader_verdict_by (is_failed said.answer) said.bad (breaks_as_reader kind said)

-- a poll that goes on: it didn't fail, found no bad item, and kept the rules
pub record ReaderGoes (old new : ReaderScene) (write : Operation) (said : ReaderSaid) : Type 0 where
  pub polled : IsPolledForWrite old new.tells write said
  pub failed : is_failed said.answer ≡ false
  pub good : said.bad ≡ false
  pub broke : breaks_as_reader old.stream.kind said ≡ false
  pub after : new ≡ poll_took old write said new.tells

-- a poll that failed
pub record ReaderFails (old new : ReaderScene) (write : Operation) (said : ReaderSaid) : Type 0 where
  pub polled : IsPolledForWrite old new.tells write said
  pub failed : said.answer ≡ answers.Failed
  pub after : new ≡ reader_turn_stopped old new.tells

-- a poll that didn't fail, and asked for an item that is none
pub record ReaderSpoils (old new : ReaderScene) (write : Operation) (said : ReaderSaid) : Type 0 where
  pub polled : IsPolledForWrite old new.tells write said
  pub failed : is_failed said.answer ≡ false
  pub bad : said.bad ≡ true
  pub after : new ≡ reader_turn_stopped old new.tells

-- a poll that broke the rules, and did neither
pub record ReaderBreaks (old new : ReaderScene) (write : Operation) (said : ReaderSaid) : Type 0 where
  pub polled : IsPolledForWrite old new.tells write said
  pub failed : is_failed said.answer ≡ false
  pub good : said.bad ≡ false
  pub broke : breaks_as_reader old.stream.kind said ≡ true
  pub after : new ≡ reader_turn_stopped old new.tells

-- a poll for which memory had run out adds no record
pub record ReaderRunsOut (old new : ReaderScene) : Type 0 where
  pub tells : KeepsReader old.tells new.tells
  pub after : new ≡ reader_turn_stopped old new.tells

-- the turn of the host reader for the open write, by what came of it
abbrev pub IsReaderTurn : Result (Unit {0}) ReaderStops → ReaderScene → ReaderScene → Operation → Type 0
IsReaderTurn (Ok v) old new write = (said : ReaderSaid) × ReaderGoes old new write said
IsReaderTurn (Err Failed) old new write = (said : ReaderSaid) × ReaderFails old new write said
IsReaderTurn (Err BadItem) old new write = (said : ReaderSaid) × ReaderSpoils old new write said
IsReaderTurn (Err Broke) old new write = (said : ReaderSaid) × ReaderBreaks old new write said
IsReaderTurn (Err OutOfMemory) old new write = ReaderRunsOut old new
