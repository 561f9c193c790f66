-- What one poll of a host reader for a write is. Ours.
use Rattle.std.specs.Prelude.{◌≡◌, ℕ, true, List, drop}
use Rattle.strm_codes.specs.Layout.{item_type}
use Rattle.strm_codes.specs.declared.payloads.Payload.{Payload}
use Rattle.strm_memory.specs.Items.{IsFirstBadItem}
use Rattle.strm_buffers.specs.declared.answers.ReaderSaid.{ReaderSaid}
use Rattle.strm_buffers.specs.Tells.{ReaderTells, PollsReader}
use Rattle.strm_machine.specs.State.{Guest, memory_in}
use Rattle.strm_machine.specs.declared.streams.Operation.{Operation}
use Rattle.strm_host_machine.specs.ReaderTurn.{lifted_items}

-- of the items that a write has left, the one behind so many is the first that is none
abbrev pub IsBadBehind : List Guest → Payload → Operation → ℕ → Type 0
IsBadBehind guests payload write n =
    IsFirstBadItem (item_type payload) (drop write.address (memory_in guests write.guest)) write.left n

-- one poll, which offers the items that the write has left, so many being taken since the host reader
-- was last ready; asked to finish if the write was
pub record PollsFrom (tells told : ReaderTells) (guests : List Guest) (payload : Payload) (since : ℕ) (write : Operation) (said : ReaderSaid) : Type 0 where
  pub polls : PollsReader tells told said (lifted_items guests payload write said.taken)
  pub offered : said.offered ≡ write.left
  pub after : said.since ≡ since
  pub finish : said.finish ≡ write.asked
  pub next : said.bad ≡ true → IsBadBehind guests payload write said.taken
