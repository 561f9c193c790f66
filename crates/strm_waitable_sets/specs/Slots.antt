-- What stands behind a set number: the count of a set's members, if a set has it. Ours.
use Rattle.std.specs.Prelude.{◌≡◌, ℕ, ◌^◌, ◌<◌, ◌≤◌, true, List, length, slice_index_or, Option, Some, None, is_some}
use Rattle.strm_waitable_sets.specs.Homes.{member_count}
use Rattle.strm_waitable_sets.specs.declared.slots.Members.{Members}

-- the set of a number, if it is there
abbrev pub Slot : Type 0
Slot = Option Members

-- the set of a number
abbrev pub slot_at : List Slot → ℕ → Slot
slot_at slots number = slice_index_or slots number None

-- how many members a set has, and none where it is not there
abbrev pub count_of_slot : Slot → ℕ
count_of_slot None = 0
count_of_slot (Some members) = members.count

-- the same of the set of a number
abbrev pub set_count_at : List Slot → ℕ → ℕ
set_count_at slots number = count_of_slot (slot_at slots number)

-- a set's count is that of the handles that are in it, so that it is there where one is; a handle has 32
-- bits; and below the hint each number has a set
pub record AreSlotsTied (slots : List Slot) (homes : List (Option ℕ)) (hint : ℕ) : Type 0 where
  pub counted : (number : ℕ) → set_count_at slots number ≡ member_count homes number
  pub few : length homes ≤ 2 ^ 32
  pub inside : hint ≤ length slots
  pub taken : (number : ℕ) → number < hint → is_some (slot_at slots number) ≡ true
