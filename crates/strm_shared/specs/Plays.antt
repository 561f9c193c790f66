-- What each step on the table tells its seat, and how it changes the seat's view. Ours.
use Rattle.std.specs.Prelude.{◌≡◌, ◌≢◌, ℕ, ◌+◌, ◌<◌, ◌≤◌, ◌⊎◌, true, false, List, [], ◌∷◌, ◌++◌, length, max, cond, nat_lt, Option, Some, None}
use mathlib.Core.List.{IsPrefix}
use mathlib.Core.Option.{some}
use lib.ListN.{get_elem?}
use Rattle.atomic_table.specs.Table.{Me, Step}
use Rattle.strm_machine.specs.declared.limits.Limits.{Limits}
use Rattle.strm_shared.specs.declared.entry.Entry.{Entry}
use Rattle.strm_shared.specs.declared.entry.Place.{Place}
use Rattle.strm_shared.specs.declared.entry.Wait.{Wait}
use Rattle.strm_shared.specs.declared.view.View.{View}
use Rattle.strm_shared.specs.Histories.{calls_by, numbers_of_seats, AreCallsIn, Differ}
use Rattle.strm_shared.specs.Waits.{waits_by}
use Rattle.strm_shared.specs.Accounts.{Account}

-- a seat's view, and what it holds of the slot
abbrev pub Seated : Type 0
Seated = Me (Option Account) View

-- what a step tells: of the step, the seat before, the number found, and the seat after
abbrev pub SeatPlay : Type 1
SeatPlay = Step (Option Account) → Seated → ℕ → Seated → Type 0

-- the view of the first seat of a store
abbrev pub first_view : Limits → View
first_view limits = record { limits = limits; number = Some 0; fresh = None; ticket = None; holds = false; seen = []; mine = []; ended = []; behind = []; idle = 0; found = []; left = []; waiting = []; turns = 0; top_ticket = 0; top_seats = 1 }

-- TURNS

-- it looked at the ticket word and found this number
abbrev pub looked : View → ℕ → View
looked view number = record view { top_ticket = number }

-- it has drawn a ticket
abbrev pub queued : View → ℕ → View
queued view ticket = record view { ticket = Some ticket }

-- it has the turn, and holds this value of the slot
abbrev pub holding : View → Account → View
holding view found = record view { holds = true; seen = found.log; idle = found.idle; found = found.waits }

-- the calls of the seat's number
abbrev pub own : Option ℕ → List Entry → List Entry
own None log = []
own (Some number) log = calls_by number log

-- the handles for which the seat's number waits
abbrev pub own_waits : Option ℕ → List Wait → List Place
own_waits None seat_waits = []
own_waits (Some number) seat_waits = waits_by number seat_waits

-- it passed the turn, and left this value in the slot
abbrev pub turn_passed : View → Account → View
turn_passed view left = record view { ticket = None; holds = false; seen = left.log; mine = own view.number left.log; left = left.waits; waiting = own_waits view.number left.waits; turns = view.turns + 1 }

-- what a seat learns of the value when its turn comes
pub record Enters (view : View) (found : Account) : Type 0 where
  pub of_limits : found.limits ≡ view.limits
  pub grew : IsPrefix view.seen found.log
  pub made : (n : ℕ) → view.number ≡ Some n → (calls_by n found.log ≡ view.mine) × (waits_by n found.waits ≡ view.waiting)
  pub room : length found.log + found.idle < 18446744073709551615
  pub over : (k : ℕ) (ended : ℕ × List Entry) → get_elem? view.ended k ≡ some ended → (calls_by ended.0 found.log ≡ ended.1) × (view.number ≢ Some ended.0)

-- what a seat has seen is one history: the calls under its number are its own, those of the seats that ended in
-- it are as they were, and the shorter of two histories that were seen is a front of it
pub record Recalls (number : Option ℕ) (seen mine behind : List Entry) (ended : List (ℕ × List Entry)) : Type 0 where
  pub own : (n : ℕ) → number ≡ Some n → calls_by n seen ≡ mine
  pub over : AreCallsIn ended seen
  pub front : IsPrefix behind seen

-- the same, of a view
abbrev pub RecallsAll : View → Type 0
RecallsAll view = Recalls view.number view.seen view.mine view.behind view.ended

-- the seat and those that ended in it have different numbers
abbrev pub IsSeatApart : View → Type 0
IsSeatApart view = (n : ℕ) → view.number ≡ Some n → Differ (n ∷ numbers_of_seats view.ended)

-- a look that changes nothing: it tells that what the seat has seen is one history
abbrev pub recalls : SeatPlay
recalls step me found new = (new ≡ me) × RecallsAll me.0 × IsSeatApart me.0

-- a look at the ticket word: no number that it ever had is greater
abbrev pub looks : SeatPlay
looks step me found new = (new ≡ (looked me.0 found, me.1)) × (me.0.top_ticket ≤ found)

-- a draw: it has the ticket, where no other draw came between
abbrev pub draws : SeatPlay
draws step me found new =
    (found ≡ step.first → new ≡ (queued me.0 found, me.1)) × (found ≢ step.first → new ≡ me)

-- a look at whose turn it is: where it is the seat's, it takes the slot's value
abbrev pub seat_waits : SeatPlay
seat_waits step me found new =
    (me.0.ticket ≡ Some found → (value : Account) × (new ≡ (holding me.0 value, (0, Some value) ∷ [])) × Enters me.0 value)
    × (me.0.ticket ≢ Some found → new ≡ me)

-- the turn is passed, once the value lies in the slot again
abbrev pub passes_turn : SeatPlay
passes_turn step me found new =
    (value : Account) → me.1 ≡ (0, Some value) ∷ [] → (new ≡ (turn_passed me.0 value, [])) × RecallsAll new.0

-- what a turn may do: one entry of the seat, or an idle turn; and the waits of others stay
abbrev pub IsTurn : View → Account → Type 0
IsTurn view left =
    (left.limits ≡ view.limits)
    × (((made : Entry) × (view.number ≡ Some made.seat) × (left.log ≡ view.seen ++ made ∷ []) × (left.idle ≡ view.idle))
    ⊎ ((left.log ≡ view.seen) × (left.idle ≡ view.idle + 1)))
    × ((k : ℕ) → view.number ≢ Some k → waits_by k left.waits ≡ waits_by k view.found)

-- SEATS

-- it looked at the word of seats and found this number
abbrev pub looked_seats : View → ℕ → View
looked_seats view number = record view { top_seats = number }

-- it has drawn a number for a new seat, and the word of seats is past that
abbrev pub seat_numbered : View → ℕ → View
seat_numbered view number = record view { fresh = Some number; top_seats = number + 1 }

-- a look at the word of seats
abbrev pub looks_seats : SeatPlay
looks_seats step me found new = (new ≡ (looked_seats me.0 found, me.1)) × (me.0.top_seats ≤ found)

-- a draw of a number: no call that the seat has seen is of it
abbrev pub numbers : SeatPlay
numbers step me found new =
    (found ≡ step.first → (new ≡ (seat_numbered me.0 found, me.1)) × (calls_by found me.0.seen ≡ []))
    × (found ≢ step.first → new ≡ me)

-- the seat that was split: the drawn number is the new one's
abbrev pub old_half : View → View
old_half view = record view { fresh = None }

-- the new seat: it has the drawn number, and has seen as much
abbrev pub new_half : View → View
new_half view = record { limits = view.limits; number = view.fresh; fresh = None; ticket = None; holds = false; seen = view.seen; mine = []; ended = []; behind = []; idle = 0; found = []; left = []; waiting = []; turns = 0; top_ticket = view.top_ticket; top_seats = view.top_seats }

-- the longer of two histories
abbrev pub longer : List Entry → List Entry → List Entry
longer one other = cond (nat_lt (length one) (length other)) other one

-- and the shorter
abbrev pub shorter : List Entry → List Entry → List Entry
shorter one other = cond (nat_lt (length one) (length other)) one other

-- an ended seat, with its calls
abbrev pub own_ended : Option ℕ → List Entry → List (ℕ × List Entry)
own_ended None calls = []
own_ended (Some number) calls = (number, calls) ∷ []

-- the seat that another ended in: it has seen the longer history, and keeps the other's calls
abbrev pub seats_joined : View → View → View
seats_joined view other = record view { ended = view.ended ++ (other.ended ++ own_ended other.number other.mine); seen = longer view.seen other.seen; behind = shorter view.seen other.seen; top_ticket = max view.top_ticket other.top_ticket; top_seats = max view.top_seats other.top_seats }

-- what is left of the seat that ended
abbrev pub seat_spent : View
seat_spent = record { limits = record { handles = 0; places = 0 }; number = None; fresh = None; ticket = None; holds = false; seen = []; mine = []; ended = []; behind = []; idle = 0; found = []; left = []; waiting = []; turns = 0; top_ticket = 0; top_seats = 0 }
