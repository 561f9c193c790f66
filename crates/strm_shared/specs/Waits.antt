-- The reads and writes for whose reports seats wait. Ours.
use Rattle.std.specs.Prelude.{◌≡◌, ◌≢◌, ◌⊎◌, ℕ, ◌+◌, ◌≤◌, List, [], ◌∷◌, ◌++◌, length, cond, ◌==◌, ◌&&◌, Bool, true, false, Option, Some, None}
use Rattle.std.specs.List.{filter, Contains}
use Rattle.strm_codes.specs.declared.codes.ReturnCode.{ReturnCode}
use Rattle.strm_machine.specs.Acts.{act_of}
use Rattle.strm_machine.specs.State.{State}
use Rattle.strm_machine.specs.declared.limits.Limits.{Limits}
use Rattle.strm_machine.specs.declared.replies.Reply.{Reply}
use Rattle.strm_machine.specs.declared.replies.Reply.TheVariants as replies
use Rattle.strm_machine.specs.declared.steps.Step.{Step}
use Rattle.strm_shared.specs.declared.entry.Entry.{Entry}
use Rattle.strm_shared.specs.declared.entry.Place.{Place}
use Rattle.strm_shared.specs.declared.entry.Wait.{Wait}
use Rattle.strm_shared.specs.Histories.{IsLegal, state_after}
use Rattle.strm_shared.specs.Places.{place_named, operated, told_in, IsBusy, IsInNoSet}
use Rattle.strm_machine.specs.Moments.{is_blocked}

-- LISTS OF WAITS

-- a seat waits for the report of the end that a handle names
abbrev pub wait : ℕ → Place → Wait
wait seat there = record { seat = seat; place = there }

-- this holds of each wait
abbrev pub Each : (Wait → Type 0) → List Wait → Type 0
Each Holds [] = Unit {0}
Each Holds (first ∷ more) = Holds first × Each Holds more

-- some wait is this one
abbrev pub Has : Wait → List Wait → Type 0
Has one waits = Contains waits one

-- the handles for which a seat waits, by its number
abbrev pub waits_by : ℕ → List Wait → List Place
waits_by number [] = []
waits_by number (first ∷ more) =
    cond (first.seat == number) (first.place ∷ waits_by number more) (waits_by number more)

-- another seat's wait
abbrev pub is_others : ℕ → Wait → Bool
is_others number one = cond (one.seat == number) false true

-- the waits of the other seats
abbrev pub without : ℕ → List Wait → List Wait
without number waits = filter (is_others number) waits

-- no two wait for one handle
abbrev pub Apart : List Wait → Type 0
Apart [] = Unit {0}
Apart (first ∷ more) = Each (λ other. other.place ≢ first.place) more × Apart more

-- the waits after a read or write that was to begin: where it is answered Blocked there is one more
abbrev pub waits_begun : Reply → List Wait → Wait → List Wait
waits_begun reply waits one = cond (is_blocked reply) (waits ++ one ∷ []) waits

-- the handles for which the seat waits then, if it waited for none before
abbrev pub waits_for : Reply → Place → List Place
waits_for reply there = cond (is_blocked reply) (there ∷ []) []

-- no seat waits for the handle that the step names
abbrev pub IsClear : Step → List Wait → Type 0
IsClear step waits = Each (λ one. place_named step ≢ Some one.place) waits

-- WAITS AND HISTORIES

-- an optional handle is this one
abbrev pub is_at : Place → Option Place → Bool
is_at there None = false
is_at there (Some other) = (other.guest == there.guest) && (other.handle == there.handle)

-- the step reads or writes the end of this handle
abbrev pub operates_on : Place → Step → Bool
operates_on there step = is_at there (operated step)

-- the reply tells a report of the end of this handle
abbrev pub reports : Place → Step → Reply → Bool
reports there step reply = is_at there (told_in (act_of step) reply)

-- whether a seat's read or write of a handle is answered Blocked and not reported, after one more entry
abbrev pub awaits_next : ℕ → Place → Bool → Entry → Bool
awaits_next number there before next =
    cond ((next.seat == number) && (operates_on there next.step && is_blocked next.reply)) true
    (cond (reports there next.step next.reply) false before)

-- the same, after more entries
abbrev pub awaits : ℕ → Place → Bool → List Entry → Bool
awaits number there before [] = before
awaits number there before (next ∷ more) =
    awaits number there (awaits_next number there before next) more

-- the seat's read or write of the handle is answered Blocked in the history, and not reported there
abbrev pub awaited : Wait → List Entry → Bool
awaited one log = awaits one.seat one.place false log

-- what is kept of a wait: it is awaited, and its end has an operation and is in no set
abbrev pub IsGood : State → List Entry → Wait → Type 0
IsGood store log one = (awaited one log ≡ true) × IsBusy store one.place × IsInNoSet store one.place

-- these are waits after a history: each is good, and no two wait for one handle
pub record AreWaits (limits : Limits) (log : List Entry) (waits : List Wait) : Type 0 where
  pub good : Each (IsGood (state_after limits log) log) waits
  pub apart : Apart waits

-- what the slot's value keeps: for each wait there is room for one entry more
pub record IsSlotKept (limits : Limits) (store : State) (log : List Entry) (waits : List Wait) (room : ℕ) : Type 0 where
  pub legal : IsLegal limits log
  pub store_is : store ≡ state_after limits log
  pub waiting : Each (IsGood store log) waits
  pub apart : Apart waits
  pub enough : length log + length waits ≤ room

-- what the event step of a read or write that waited replies: the store is trapped, or a report, which is
-- not Blocked
abbrev pub DeliversReport : Reply → Type 0
DeliversReport reply =
    (reply ≡ replies.StoreTrapped)
    ⊎ ((code : ReturnCode) × (reply ≡ replies.Event (Some code)) × (is_blocked (replies.Code code) ≡ false))

-- what a call that waited answers by that reply
abbrev pub AnswersWait : Reply → Reply → Type 0
AnswersWait reply answer =
    ((reply ≡ replies.StoreTrapped) × (answer ≡ replies.StoreTrapped))
    ⊎ ((code : ReturnCode) × (reply ≡ replies.Event (Some code)) × (answer ≡ replies.Code code))
