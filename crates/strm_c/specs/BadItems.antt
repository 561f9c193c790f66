-- What C is told of the item at which a read or write stops. Ours.
use Rattle.std.specs.Prelude.{◌≡◌, ◌≢◌, ◌==◌, ℕ, if◌then◌else◌, Option, Some, None}
use Rattle.strm_machine.specs.Asked.{HasBadItem}
use Rattle.strm_machine.specs.State.{State}
use Rattle.strm_machine.specs.declared.steps.Step.{Step}
use Rattle.strm_machine.specs.declared.streams.Side.{Side}
use Rattle.strm_machine.specs.declared.streams.Side.TheVariants.{Writing, Reading}
use Rattle.strm_transmit.specs.BadItems.{IsBadItem}
use Rattle.strm_transmit.specs.declared.store.bad_items.BadItem.{BadItem}
use Rattle.strm_c.specs.Statuses.{no_payload, no_store, no_bad_item}
use Rattle.strm_c.specs.declared.exports.bad_items.StrmBadItem.{StrmBadItem}

-- the side of a word
abbrev pub side_of_word : ℕ → Side
side_of_word word = if word == 2 then Reading else Writing

-- an item, as C has it
abbrev pub item_in : StrmBadItem → BadItem
item_in item = record { guest = item.guest; handle = item.handle; index = item.index }

-- where the status is 0 the item was put at out at which the step stops
pub record FindsBadItem (state : State) (step : Step) (status : ℕ) (old_item new_item : StrmBadItem) : Type 0 where
  pub found : status ≡ 0 → IsBadItem state step (item_in new_item)
  -- else it stops at none, and what was there stays
  pub status_is : status ≢ 0 → status ≡ no_bad_item
  pub none : status ≢ 0 → (stream : ℕ) → HasBadItem state step stream → ⊥
  pub kept : status ≢ 0 → new_item ≡ old_item

-- nothing was looked for, which the status tells
pub record FindsNothing (why status : ℕ) (old_item new_item : StrmBadItem) : Type 0 where
  pub status_is : status ≡ why
  pub kept : new_item ≡ old_item

-- the same of a call on a handle, which names a type by a word
abbrev pub TellsBadItem : {T : Type 0} → Option State → Option T → (T → Step) → ℕ → StrmBadItem → StrmBadItem → Type 0
TellsBadItem (Some state) (Some named) step status old_item new_item =
    FindsBadItem state (step named) status old_item new_item
TellsBadItem (Some state) None step status old_item new_item = FindsNothing no_payload status old_item new_item
TellsBadItem None named step status old_item new_item = FindsNothing no_store status old_item new_item
