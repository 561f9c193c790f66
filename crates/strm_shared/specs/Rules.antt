-- The rule of the table: what holds between any two steps on its words and its slot. Ours.
--
-- Word 0 is the next ticket, word 1 the ticket whose turn it is, word 2 the number of seats. The slot has
-- the store with its history. A step of a seat is one on a word, and changes that seat's view alone.
use Rattle.std.specs.Prelude.{◌≡◌, ℕ, ◌+◌, ◌<◌, ◌≤◌, ◌⊎◌, true, List, [], ◌∷◌, length, cond, ◌==◌, Option, Some, None}
use mathlib.Core.Option.{some, none}
use mathlib.Core.List.{IsPrefix}
use lib.ListN.{get_elem?}
use Rattle.atomic_table.specs.Table.{State}
use Rattle.strm_machine.specs.declared.limits.Limits.{Limits}
use Rattle.strm_shared.specs.declared.entry.Entry.{Entry}
use Rattle.strm_shared.specs.declared.entry.Wait.{Wait}
use Rattle.strm_shared.specs.declared.view.View.{View}
use Rattle.strm_shared.specs.Histories.{calls_by, AreCallsIn}
use Rattle.strm_shared.specs.Plays.{RecallsAll}
use Rattle.strm_shared.specs.Waits.{waits_by}
use Rattle.strm_shared.specs.Accounts.{Account, account}

-- the numbers of all items together
abbrev pub total_by : {A : Type 0} → (A → ℕ) → List A → ℕ
total_by f [] = 0
total_by f (first ∷ more) = f first + total_by f more

-- 1 where the option has this number, else 0
abbrev pub is : ℕ → Option ℕ → ℕ
is number None = 0
is number (Some other) = cond (other == number) 1 0

-- how often a view has a ticket
abbrev pub has_ticket : ℕ → View → ℕ
has_ticket ticket view = is ticket view.ticket

-- how often a view has a seat's number: in use, fresh for a new seat, or of a seat that ended in it
abbrev pub has_number : ℕ → View → ℕ
has_number number view =
    is number view.number + is number view.fresh
    + total_by (λ (ended : ℕ × List Entry). is number (Some ended.0)) view.ended

-- what the rule says of one seat
pub record SeatFits (idle ticket serving seats : ℕ) (log : List Entry) (waits : List Wait) (view : View) : Type 0 where
  pub saw : IsPrefix view.seen log
  pub made : (n : ℕ) → view.number ≡ Some n → (calls_by n log ≡ view.mine) × (waits_by n waits ≡ view.waiting)
  pub unused : (n : ℕ) → view.fresh ≡ Some n → (calls_by n log ≡ []) × (waits_by n waits ≡ [])
  pub over : AreCallsIn view.ended log
  pub recalls : RecallsAll view
  pub at_turn : view.holds ≡ true → (view.ticket ≡ Some serving) × (view.seen ≡ log) × (view.idle ≡ idle) × (view.found ≡ waits)
  pub looked : (view.top_ticket ≤ ticket) × (view.top_seats ≤ seats)

-- the slot's value is out with a seat that has the turn
abbrev pub IsSlotOut : State (Option Account) View → Type 0
IsSlotOut table =
    (get_elem? table.homes 0 ≡ some none)
    × ((j : ℕ) × (view : View) × (get_elem? table.views j ≡ some view) × (view.holds ≡ true))

-- the rule
pub record Orderly (limits : Limits) (table : State (Option Account) View) : Type 0 where
  pub ticket : ℕ
  pub serving : ℕ
  pub seats : ℕ
  pub idle : ℕ
  pub log : List Entry
  pub waits : List Wait
  pub words : table.words ≡ ticket ∷ serving ∷ seats ∷ []
  pub order : serving ≤ ticket
  pub few : ticket < 18446744073709551616
  pub count : serving ≡ length log + idle
  pub slot : (get_elem? table.homes 0 ≡ some (some (Some (account limits log idle waits)))) ⊎ IsSlotOut table
  pub passed : (x : ℕ) → x < serving → total_by (has_ticket x) table.views ≡ 0
  pub undrawn : (x : ℕ) → ticket ≤ x → total_by (has_ticket x) table.views ≡ 0
  pub tickets : (x : ℕ) → total_by (has_ticket x) table.views ≤ 1
  pub numbers : (x : ℕ) → total_by (has_number x) table.views ≤ 1
  pub unnumbered : (x : ℕ) → seats ≤ x → total_by (has_number x) table.views ≡ 0
  pub strangers : (x : ℕ) → seats ≤ x → (calls_by x log ≡ []) × (waits_by x waits ≡ [])
  pub fits : (j : ℕ) (view : View) → get_elem? table.views j ≡ some view → SeatFits idle ticket serving seats log waits view
