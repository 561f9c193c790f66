-- The polls of a host writer as they are kept: which items they gave. Ours.
use Rattle.std.specs.Prelude.{◌+◌, ◌<◌, ◌≤◌, List, length, map, take, drop}
use Rattle.strm_codes.specs.declared.payloads.Payload.{Payload}
use Rattle.strm_buffers.specs.Listing.{Item}
use Rattle.strm_buffers.specs.Said.{WriterSaid}
use Rattle.strm_program_ends.specs.declared.polls.Poll.{Poll}

-- the record of a poll: its items are some of all that were fed, of this payload
abbrev pub said_of : Payload → List Item → Poll → WriterSaid
said_of payload items poll =
    record {
      room = poll.room;
      finish = poll.finish;
      payload = payload;
      items = take poll.count (drop poll.start items);
      answer = poll.answer;
    }

-- and of all polls
abbrev pub said_kept : Payload → List Item → List Poll → List WriterSaid
said_kept payload items polls = map (said_of payload items) polls

-- the items of a poll were fed, and can be counted
abbrev pub IsPoll : List Item → Poll → Type 0
IsPoll items poll = (poll.start + poll.count ≤ length items) × (poll.count < 4294967295)
