-- What a host writer that gives a queue tells. Ours.
use Rattle.std.specs.Prelude.{◌≡◌, Bool, false, [], drop, Some}
use Rattle.strm_codes.specs.declared.codes.TransmitKind.{TransmitKind}
use Rattle.strm_codes.specs.declared.payloads.Payload.{Payload}
use Rattle.strm_buffers.specs.declared.answers.Answer.{Answer}
use Rattle.strm_buffers.specs.Windows.{Lent, room_of}
use Rattle.strm_buffers.specs.Tells.{WriterTells}
use Rattle.strm_program_ends.specs.Queues.{Queue, items_given, queue_left, answer_given}
use Rattle.strm_program_ends.specs.Polls.{said_kept}
use Rattle.strm_program_ends.specs.declared.queue_writer.QueueWriter.{QueueWriter}

-- its queue: all that it was fed and has not given
abbrev pub queue_of : QueueWriter → Queue
queue_of w = record { items = drop w.given w.fed.items; ended = w.is_ended }

-- what it tells: it holds nothing, and does not fail
abbrev pub queue_tells : QueueWriter → WriterTells
queue_tells w =
    record {
      kind = w.kind;
      payload = w.fed.payload;
      said = said_kept w.fed.payload w.fed.items w.polls.items;
      holds = [];
      faults = 0;
      closed = w.closed;
      heard = Some w.fed.heard;
    }

-- what it tells before its first poll and its first feed
abbrev pub unfed_writer : TransmitKind → Payload → WriterTells
unfed_writer kind payload =
    record { kind = kind; payload = payload; said = []; holds = []; faults = 0; closed = false; heard = Some [] }

-- what it does in a poll: it gives the next items, as many as its kind and the room allow, and answers
-- by what its queue had and what is left
pub record GivesNext (old new : QueueWriter) (before after : Lent) (finish : Bool) (answer : Answer) : Type 0 where
  pub items : after.marked ≡ items_given old.kind (room_of before.place) (queue_of old)
  pub answers : answer ≡ answer_given old.kind (room_of before.place) finish (queue_of old)
  pub queue : queue_of new ≡ queue_left old.kind (room_of before.place) (queue_of old)

-- what a poll leaves as it is: what the writer was fed, of what kind it is, whether it was closed
pub record SameFed (old new : QueueWriter) : Type 0 where
  pub fed : new.fed ≡ old.fed
  pub kind : new.kind ≡ old.kind
  pub closed : new.closed ≡ old.closed
