-- Histories of calls: a call is an entry, and a history is legal where each reply is the machine's, from a
-- store without guests and without host ends. Ours.
use Rattle.std.specs.Prelude.{◌≡◌, ◌≢◌, ℕ, List, [], ◌∷◌, map, cond, ◌==◌}
use mathlib.Core.Option.{some}
use lib.ListN.{get_elem?}
use Rattle.strm_machine.specs.State.{State, empty}
use Rattle.strm_machine.specs.Reactions.{react}
use Rattle.strm_machine.specs.declared.limits.Limits.{Limits}
use Rattle.strm_machine.specs.declared.replies.Reply.{Reply}
use Rattle.strm_machine.specs.declared.steps.Step.{Step}
use Rattle.strm_shared.specs.declared.entry.Entry.{Entry}

-- what contracts see of a history: its entries, and for how many there is room
pub record Log : Type 0 where
  pub items : List Entry
  pub room : ℕ

-- a call by a seat, what was asked, and the reply
abbrev pub entry : ℕ → Step → Reply → Entry
entry seat step reply = record { seat = seat; step = step; reply = reply }

-- the state after all calls
abbrev pub after : State → List Entry → State
after state [] = state
after state (first ∷ more) = after (react state first.step).state more

-- each reply is what the machine replies there
abbrev pub Replies : State → List Entry → Type 0
Replies state [] = Unit {0}
Replies state (first ∷ more) =
    ((react state first.step).reply ≡ first.reply) × Replies (react state first.step).state more

-- the state after a history; the tag of a store that threads share is 0
abbrev pub state_after : Limits → List Entry → State
state_after limits log = after (empty 0 limits) log

-- a legal history
abbrev pub IsLegal : Limits → List Entry → Type 0
IsLegal limits log = Replies (empty 0 limits) log

-- the calls of one seat, by its number
abbrev pub calls_by : ℕ → List Entry → List Entry
calls_by number [] = []
calls_by number (first ∷ more) =
    cond (first.seat == number) (first ∷ calls_by number more) (calls_by number more)

-- SEATS THAT ENDED, EACH BY ITS NUMBER AND ITS CALLS

-- their numbers
abbrev pub numbers_of_seats : List (ℕ × List Entry) → List ℕ
numbers_of_seats ended = map (λ (one : ℕ × List Entry). one.0) ended

-- the calls of each in a history are these
abbrev pub AreCallsIn : List (ℕ × List Entry) → List Entry → Type 0
AreCallsIn ended log = (k : ℕ) (one : ℕ × List Entry) → get_elem? ended k ≡ some one → calls_by one.0 log ≡ one.1

-- none of these numbers is this one
abbrev pub NoneIs : ℕ → List ℕ → Type 0
NoneIs number [] = Unit {0}
NoneIs number (first ∷ more) = (first ≢ number) × NoneIs number more

-- no two of these numbers are the same
abbrev pub Differ : List ℕ → Type 0
Differ [] = Unit {0}
Differ (first ∷ more) = NoneIs first more × Differ more
