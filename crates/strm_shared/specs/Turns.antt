-- A turn as a whole: what a seat knows in it and after it. Ours.
use Rattle.std.specs.Prelude.{◌≡◌, ◌<◌, ◌≤◌, ℕ, [], ◌∷◌, None}
use Rattle.strm_shared.specs.Accounts.{Account}
use Rattle.strm_shared.specs.declared.view.View.{View}
use Rattle.strm_shared.specs.Plays.{Seated, looked, queued, holding, turn_passed, Enters}
use Rattle.strm_shared.specs.Tokens.{last_number}
use Rattle.strm_shared.specs.Waits.{AreWaits}

-- the seat has the turn, and took the slot's value, whose waits are waits after its history
abbrev pub Taken : Seated → Account → Seated → Type 0
Taken before found now =
    (ticket : ℕ) × (now ≡ (holding (queued (looked before.0 ticket) ticket) found, (0, None) ∷ []))
    × Enters before.0 found × (ticket < last_number) × (before.0.top_ticket ≤ ticket)
    × AreWaits found.limits found.log found.waits

-- no ticket was left
abbrev pub OutOfTickets : Seated → Seated → Type 0
OutOfTickets before now = (now ≡ (looked before.0 last_number, before.1)) × (before.0.top_ticket ≤ last_number)

-- a view after its turn, in which it drew a ticket, found a value and left another
abbrev pub turned : View → ℕ → Account → Account → View
turned view ticket found left = turn_passed (holding (queued (looked view ticket) ticket) found) left
