-- What one poll of a host writer for a read leaves of the guests' memories. Ours.
use Rattle.std.specs.Prelude.{◌≡◌, ℕ, ◌≤◌, List, length, take, Some}
use Rattle.strm_codes.specs.declared.payloads.Payload.{Payload}
use Rattle.strm_buffers.specs.declared.answers.Answer.{Answer}
use Rattle.strm_buffers.specs.Listing.{Item}
use Rattle.strm_buffers.specs.Said.{WriterSaid}
use Rattle.strm_buffers.specs.Tells.{WriterTells, PollsWriter}
use Rattle.strm_machine.specs.State.{Guest}
use Rattle.strm_machine.specs.declared.streams.Operation.{Operation}
use Rattle.strm_host_machine.specs.WriterTurn.{lowered_items}

-- one poll, with room for the items that the read has left, asked to finish if the read was
pub record IsPolledForRead (tells told : WriterTells) (read : Operation) (said : WriterSaid) : Type 0 where
  pub polls : PollsWriter tells told said (take read.left said.items)
  pub room : said.room ≡ Some read.left
  pub finish : said.finish ≡ read.asked

-- items lie where the read's next ones were to lie, no more than it has left, and all else is as it was
pub record LowersForRead (guests after : List Guest) (payload : Payload) (read : Operation) : Type 0 where
  pub items : List Item
  pub few : length items ≤ read.left
  pub lowered : after ≡ lowered_items guests payload read items

-- a poll with this answer, by which the read receives so many items
pub record PollsInto (tells told : WriterTells) (guests after : List Guest) (payload : Payload) (read : Operation) (answer : Answer) (received : ℕ) : Type 0 where
  pub said : WriterSaid
  pub answer_is : said.answer ≡ answer
  pub polled : IsPolledForRead tells told read said
  pub received_is : received ≡ length (take read.left said.items)
  pub lowers : after ≡ lowered_items guests payload read (take read.left said.items)
