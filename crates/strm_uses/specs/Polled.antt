-- What a caller knows after it polled a host writer, or a host reader. Ours.
use Rattle.std.specs.Prelude.{◌≡◌, ℕ, Bool, List, ◌∷◌, [], ◌++◌, take, drop, Some}
use Rattle.std.specs.Option.{option_map}
use Rattle.strm_codes.specs.Layout.{item_type}
use Rattle.strm_memory.specs.Items.{stored_at}
use Rattle.strm_buffers.specs.declared.answers.Answer.{Answer}
use Rattle.strm_buffers.specs.declared.answers.ReaderSaid.{ReaderSaid}
use Rattle.strm_buffers.specs.Listing.{items_in}
use Rattle.strm_buffers.specs.Said.{WriterSaid}
use Rattle.strm_buffers.specs.Tells.{WriterTells, ReaderTells}

-- the writer told one poll more, with this room: of what it produced there, as much as there was
-- room for lies in the memory, which is otherwise as it was, and the rest it holds
pub record FetchesItems (old new : WriterTells) (memory after : List ℕ) (address room : ℕ)
    (finish : Bool) (answer : Answer) : Type 0 where
  pub said : WriterSaid
  pub told : new.said ≡ old.said ++ said ∷ []
  pub room_is : said.room ≡ Some room
  pub finish_is : said.finish ≡ finish
  pub answer_is : said.answer ≡ answer
  pub stored : after ≡ stored_at (item_type old.payload) memory address (take room said.items)
  pub held : new.holds ≡ drop room said.items

-- the host reader told one poll more, of so many items of the memory, of which it took so many from
-- the first on; where it tells what it took, those are added
pub record DeliversItems (old new : ReaderTells) (memory : List ℕ) (address offered : ℕ)
    (finish : Bool) (taken : ℕ) (answer : Answer) : Type 0 where
  pub said : ReaderSaid
  pub told : new.said ≡ old.said ++ said ∷ []
  pub offered_is : said.offered ≡ offered
  pub finish_is : said.finish ≡ finish
  pub answer_is : said.answer ≡ answer
  pub taken_is : said.taken ≡ taken
  pub took : new.holds
      ≡ option_map (λ xs. xs ++ items_in (item_type old.payload) memory address taken) old.holds
