-- What contracts see of a seat, and what one turn does to it. Ours.
use Rattle.std.specs.Prelude.{◌≡◌, ◌≢◌, ℕ, ◌+◌, ◌<◌, ◌≤◌, ◌++◌, ◌∷◌, ◌⊎◌, List, [], Some, None, false}
use mathlib.Core.List.{IsPrefix}
use Rattle.atomic_table.specs.Seated.{TableId}
use Rattle.strm_machine.specs.WaitableSets.{is_in_set}
use Rattle.strm_machine.specs.declared.limits.Limits.{Limits}
use Rattle.strm_shared.specs.declared.entry.Entry.{Entry}
use Rattle.strm_shared.specs.declared.entry.Place.{Place}
use Rattle.strm_shared.specs.declared.entry.Wait.{Wait}
use Rattle.strm_shared.specs.declared.view.View.{View}
use Rattle.strm_shared.specs.Histories.{IsLegal, state_after, calls_by, numbers_of_seats, AreCallsIn, Differ}
use Rattle.strm_shared.specs.Plays.{Seated, RecallsAll, IsSeatApart}
use Rattle.strm_shared.specs.Waits.{wait, waits_by, without, waits_begun, waits_for, IsClear, AreWaits}

-- a seat: of which table, its number and the store's limits; the history that it has seen, its own entries
-- there and those of seats that ended in it; the waits that its last turn found and those that it left; the
-- handles for which it waits; how many turns it had; and the greatest numbers that it knows that the ticket
-- word and the word of seats had
pub record Token : Type 0 where
  pub table : TableId
  pub number : ℕ
  pub limits : Limits
  pub seen : List Entry
  pub mine : List Entry
  pub ended : List (ℕ × List Entry)
  pub found : List Wait
  pub left : List Wait
  pub waiting : List Place
  pub turns : ℕ
  pub top_ticket : ℕ
  pub top_seats : ℕ

-- the token of a seat by its view
abbrev pub token : TableId → ℕ → View → Token
token table number view =
    record { table = table; number = number; limits = view.limits; seen = view.seen; mine = view.mine; ended = view.ended; found = view.found; left = view.left; waiting = view.waiting; turns = view.turns; top_ticket = view.top_ticket; top_seats = view.top_seats }

-- 2^64 - 1, which no ticket and no seat's number is
abbrev pub last_number : ℕ
last_number = 18446744073709551615

-- between its turns a seat has no ticket, and has seen one legal history, with its own calls
pub record Rests (number : ℕ) (view : View) : Type 0 where
  pub numbered : view.number ≡ Some number
  pub ticketless : view.ticket ≡ None
  pub free : view.holds ≡ false
  pub bare : view.fresh ≡ None
  pub legal : IsLegal view.limits view.seen
  pub recalls : RecallsAll view
  pub apart : IsSeatApart view
  pub below : number < view.top_seats

-- between its calls a seat waits for nothing, unless no ticket is left
abbrev pub Unbound : View → Type 0
Unbound view = (view.waiting ≡ []) ⊎ (last_number ≤ view.top_ticket)

-- a seat that holds nothing, between two turns of one call
abbrev pub Pauses : ℕ → Seated → Type 0
Pauses number me = Rests number me.0 × (me.1 ≡ [])

-- a seat between its calls
abbrev pub Sits : ℕ → Seated → Type 0
Sits number me = Rests number me.0 × (me.1 ≡ []) × Unbound me.0

-- what no call changes
abbrev pub Same : Token → Token → Type 0
Same old new = (new.table ≡ old.table) × (new.number ≡ old.number) × (new.limits ≡ old.limits)

-- the calls of the seats that ended in this one are as they were
abbrev pub Over : Token → Type 0
Over new = AreCallsIn new.ended new.seen

-- what a seat has seen is one legal history: the calls under its number there are its own, those of the seats
-- that ended in it are theirs, and all of them have different numbers
pub record IsOneHistory (seat : Token) : Type 0 where
  pub legal : IsLegal seat.limits seat.seen
  pub own : calls_by seat.number seat.seen ≡ seat.mine
  pub over : Over seat
  pub apart : Differ (seat.number ∷ numbers_of_seats seat.ended)

-- whatever a call answers: what a seat had seen is a front of what it has seen, which is one legal history, and
-- the same seats have ended in it
abbrev pub Continues : Token → Token → Type 0
Continues old new = IsPrefix old.seen new.seen × (new.ended ≡ old.ended) × IsOneHistory new

-- the greatest ticket that was found doesn't fall, and what is known of the word of seats stays
abbrev pub TicketRises : Token → Token → Type 0
TicketRises old new = (old.top_ticket ≤ new.top_ticket) × (new.top_seats ≡ old.top_seats)

-- the waits that a turn finds are waits after this history, and the seat's own there are for the handles for
-- which it waits
pub record Finds (before : List Entry) (old new : Token) : Type 0 where
  pub waits : AreWaits new.limits before new.found
  pub own : waits_by new.number new.found ≡ old.waiting

-- one entry was made, the last of the history, after these
pub record AddsEntry (before : List Entry) (old : Token) (made : Entry) (new : Token) : Type 0 where
  pub grew : IsPrefix old.seen before
  pub ends : new.seen ≡ before ++ made ∷ []
  pub legal : IsLegal new.limits new.seen
  pub mine : new.mine ≡ old.mine ++ made ∷ []
  pub own : calls_by new.number new.seen ≡ new.mine
  pub over : (new.ended ≡ old.ended) × Over new
  pub finds : Finds before old new
  pub rises : TicketRises old new
  pub top : new.top_ticket < last_number

-- an idle turn: it made no entry
pub record Idles (old new : Token) : Type 0 where
  pub grew : IsPrefix old.seen new.seen
  pub legal : IsLegal new.limits new.seen
  pub mine : new.mine ≡ old.mine
  pub own : calls_by new.number new.seen ≡ new.mine
  pub over : (new.ended ≡ old.ended) × Over new
  pub turns : new.turns ≡ old.turns + 1
  pub waits : (new.left ≡ new.found) × (new.waiting ≡ old.waiting)
  pub finds : Finds new.seen old new
  pub rises : TicketRises old new
  pub top : new.top_ticket < last_number

-- no turn came: no ticket was left. What was seen is one history
abbrev pub HistoryStays : Token → Token → Type 0
HistoryStays old new =
    (new.seen ≡ old.seen) × (new.mine ≡ old.mine) × (new.turns ≡ old.turns) × (new.found ≡ old.found)
    × (new.left ≡ old.left) × (new.waiting ≡ old.waiting) × (new.ended ≡ old.ended) × (new.top_ticket ≡ last_number)
    × TicketRises old new × IsOneHistory new

-- some idle turns, or none
pub record Later (old new : Token) : Type 0 where
  pub grew : IsPrefix old.seen new.seen
  pub mine : new.mine ≡ old.mine
  pub turns : old.turns ≤ new.turns
  pub ended : new.ended ≡ old.ended
  pub waiting : new.waiting ≡ old.waiting
  pub rises : TicketRises old new

-- a turn with one entry, which names no handle for which a seat waits, and leaves the waits
abbrev pub Called : Token → Entry → Token → Type 0
Called old made new =
    ((before : List Entry) × AddsEntry before old made new) × (new.turns ≡ old.turns + 1)
    × (new.left ≡ new.found) × (new.waiting ≡ old.waiting) × IsClear made.step new.found

-- a turn with the read or write of a handle that was in no set; where it is answered Blocked, the seat waits
-- for the report of that handle, and for no other
abbrev pub Begun : Token → Place → Entry → Token → Type 0
Begun old there made new =
    ((before : List Entry) × AddsEntry before old made new
    × (is_in_set (state_after new.limits before) there.guest there.handle ≡ false))
    × (new.turns ≡ old.turns + 1) × (new.left ≡ waits_begun made.reply new.found (wait made.seat there))
    × (new.waiting ≡ waits_for made.reply there)

-- some turns, the last with the event that ends the seat's wait, after which it waits for nothing
abbrev pub Delivered : Token → Entry → Token → Type 0
Delivered old made new =
    ((before : List Entry) × AddsEntry before old made new) × (old.turns < new.turns)
    × (new.left ≡ without made.seat new.found) × (new.waiting ≡ [])

-- a new seat's number, by what the seat that it is split from knows of the word of seats before and after: it
-- is none that the word had passed before, the word is past it then, and it isn't the last
abbrev pub IsNextNumber : ℕ → ℕ → ℕ → Type 0
IsNextNumber before after number = (before ≤ number) × (after ≡ number + 1) × (number < last_number)

-- a new seat has another number and made no call, and has seen as much as the one that it was split from, by
-- what that one was before and is after
abbrev pub IsSplit : Token → Token → Token → Type 0
IsSplit before old new =
    (new.table ≡ old.table) × (new.limits ≡ old.limits) × (new.seen ≡ old.seen) × (new.mine ≡ [])
    × (new.ended ≡ []) × (new.turns ≡ 0) × (new.top_ticket ≡ old.top_ticket)
    × (new.top_seats ≡ old.top_seats) × (new.number ≢ old.number)
    × IsNextNumber before.top_seats old.top_seats new.number × IsOneHistory new
