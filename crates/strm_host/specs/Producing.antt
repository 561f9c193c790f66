-- What a poll of a producer leaves, and what the producer may tell of it before.
-- wasmtime, `StreamProducer`; what is told is ours.
use Rattle.std.specs.Prelude.{◌≡◌, ℕ, Bool, true, List, [], ◌++◌, map, length, drop, Option}
use Rattle.strm_buffers.specs.declared.answers.Answer.{Answer}
use Rattle.strm_codes.specs.Layout.{item_type}
use Rattle.strm_codes.specs.declared.payloads.Payload.{Payload}
use Rattle.strm_memory.specs.Items.{AreItems, byte_items}
use Rattle.strm_buffers.specs.Listing.{Item, TypedItems}
use Rattle.strm_buffers.specs.Said.{in_room, past_room}
use Rattle.strm_buffers.specs.Windows.{Lent, stored_in}

-- a window for items of this payload as a poll begins: it is prepared, and nothing is marked in it
pub record IsFreshWindow (item : Payload) (window : Lent) : Type 0 where
  pub payload : window.payload ≡ item
  pub prepared : window.prepared ≡ true
  pub nothing_marked : window.marked ≡ []

-- what was produced in all, of this payload: those that there was room for are marked, and the others
-- are held
pub record IsProducedInRoom (item : Payload) (room : Option ℕ) (marked : List Item) (items held : TypedItems) : Type 0 where
  pub of : items.payload ≡ item
  pub fit : AreItems (item_type item) items.items
  pub marked_is : marked ≡ in_room room items.items
  pub held_is : held.items ≡ past_room room items.items
  pub typed : held.payload ≡ item

-- one poll: all items that it produces, and its answer
pub record ProducerPoll : Type 0 where
  pub items : List Item
  pub answer : Answer

-- the next poll of a producer, by how many items there is room for (None: as many as it likes) and
-- whether it is asked to finish; none where the producer doesn't tell
abbrev pub Plan : Type 0
Plan = Option (Option ℕ → Bool → ProducerPoll)

-- the poll that marked these items and left those in its buffer
abbrev pub polled : {T : Type 0} → (T → Item) → List Item → List T → Answer → ProducerPoll
polled item marked buffered answer = record { items = marked ++ map item buffered; answer = answer }

-- the window after these bytes were written at the front of its unmarked ones, and marked
abbrev pub with_written : Lent → List ℕ → Lent
with_written w bytes =
    record w {
      place = stored_in (item_type w.payload) w.place (length w.marked) (byte_items bytes);
      marked = w.marked ++ byte_items bytes;
      unmarked = drop (length bytes) w.unmarked;
    }
