-- What each call says of its seat: by its answer, and by each error. Ours.
use Rattle.std.specs.Prelude.{◌≡◌, ◌≢◌, ◌⊎◌, ◌↔◌, ◌<◌, ◌≤◌, ℕ, [], ◌∷◌, ◌++◌, max, Bool, true, false, Option, Some, None, Result, Err}
use mathlib.Core.List.{IsPrefix}
use Rattle.atomic_table.specs.Seated.{TableId}
use Rattle.strm_codes.specs.declared.codes.ReturnCode.TheVariants as codes
use Rattle.strm_machine.specs.WaitableSets.{is_in_set}
use Rattle.strm_machine.specs.declared.steps.Step.{Step}
use Rattle.strm_machine.specs.declared.steps.Step.TheVariants as steps
use Rattle.strm_machine.specs.declared.replies.Reply.{Reply}
use Rattle.strm_machine.specs.declared.replies.Reply.TheVariants as replies
use Rattle.strm_shared.specs.declared.entry.Place.{Place}
use Rattle.strm_shared.specs.declared.errors.SharedError.{SharedError}
use Rattle.strm_shared.specs.declared.errors.SharedError.TheVariants.{HostStep, InSet, Waiting, Worn, NoSeat, OutOfMemory}
use Rattle.strm_shared.specs.declared.store.SharedStore.{SharedStore}
use Rattle.strm_shared.specs.declared.store.Closed.{Closed}
use Rattle.strm_shared.specs.declared.view.View.{View}
use Rattle.strm_shared.specs.Histories.{entry, IsLegal, state_after, calls_by, AreCallsIn}
use Rattle.strm_shared.specs.Places.{place_named, operated, is_host_step, is_move, is_refused_busy}
use Rattle.strm_machine.specs.Moments.{is_blocked}
use Rattle.strm_shared.specs.Plays.{Seated, longer}
use Rattle.strm_shared.specs.Waits.{wait, Has, IsClear, AnswersWait}
use Rattle.strm_shared.specs.Tokens.{Token, last_number, Sits, IsOneHistory, TicketRises, HistoryStays, Idles, Later, Called, Begun, Delivered}

-- the seat is one of this store's
abbrev pub IsOf : SharedStore → Token → Type 0
IsOf store seat = (seat.table ≡ store.table.shared.table_id) × (seat.limits ≡ store.table.shared.key)

-- the same, of a seat by its table and its view
abbrev pub IsInside : SharedStore → TableId → View → Type 0
IsInside store table view = (table ≡ store.table.shared.table_id) × (view.limits ≡ store.table.shared.key)

-- a seat of this store between its calls may read or write by this step, which names this handle
abbrev pub MayOperate : SharedStore → TableId → ℕ → Seated → Step → Place → Type 0
MayOperate store table number me step there =
    (operated step ≡ Some there) × IsInside store table me.0 × Sits number me

-- ERRORS OF EVERY CALL

-- HostStep comes exactly where the step names a host end
abbrev pub IsHostStep : Step → Result Reply SharedError → Type 0
IsHostStep step result = (is_host_step step ≡ true) ↔ (result ≡ Err HostStep)

-- Worn comes exactly where the step names none and the ticket word was found at its last number, which it
-- carries
abbrev pub IsWorn : Step → Token → Result Reply SharedError → Type 0
IsWorn step new result =
    ((is_host_step step ≡ false) × (new.top_ticket ≡ last_number)) ↔ (result ≡ Err (Worn last_number))

-- CALL

-- of a call that made no entry: where its turn came, that was idle, and Waiting came exactly where another
-- seat waits for the handle that the step names
abbrev pub Failed : Token → Step → SharedError → Token → Type 0
Failed old step HostStep new = (is_host_step step ≡ true) × (new ≡ old)
Failed old step InSet new = ⊥
Failed old step (Waiting seat) new =
    Idles old new × (seat ≢ new.number)
    × ((there : Place) × (place_named step ≡ Some there) × Has (wait seat there) new.found)
Failed old step (Worn ticket) new = (ticket ≡ last_number) × HistoryStays old new
Failed old step (NoSeat seats) new = ⊥
Failed old step OutOfMemory new = Idles old new × IsClear step new.found

-- SYNC

-- of a read or write that did not begin: where its turn came, that was idle, and InSet came exactly where the
-- handle is in a set
abbrev pub NotBegun : Token → Place → SharedError → Token → Type 0
NotBegun old there HostStep new = ⊥
NotBegun old there InSet new =
    Idles old new × (is_in_set (state_after new.limits new.seen) there.guest there.handle ≡ true)
NotBegun old there (Waiting seat) new = ⊥
NotBegun old there (Worn ticket) new = (ticket ≡ last_number) × HistoryStays old new
NotBegun old there (NoSeat seats) new = ⊥
NotBegun old there OutOfMemory new =
    Idles old new × (is_in_set (state_after new.limits new.seen) there.guest there.handle ≡ false)

-- no ticket was left, after some idle turns; the wait stays
abbrev pub GivesUp : Token → SharedError → Token → Type 0
GivesUp old (Worn ticket) new =
    (ticket ≡ last_number) × (new.top_ticket ≡ last_number) × IsPrefix old.seen new.seen × (new.mine ≡ old.mine)
    × (new.waiting ≡ old.waiting) × (new.ended ≡ old.ended) × TicketRises old new × IsOneHistory new
GivesUp old HostStep new = ⊥
GivesUp old InSet new = ⊥
GivesUp old (Waiting seat) new = ⊥
GivesUp old (NoSeat seats) new = ⊥
GivesUp old OutOfMemory new = ⊥

-- a read or write that waited: it was answered Blocked, and then the event of its handle was told
abbrev pub Waited : Token → Step → Place → Reply → Token → Type 0
Waited old step there answer new =
    (middle : Token) × (reply : Reply)
    × Begun old there (entry old.number step (replies.Code codes.Blocked)) middle
    × Delivered middle (entry old.number (steps.Event there.guest there.handle) reply) new
    × AnswersWait reply answer

-- a read or write is never answered Blocked: its reply is another, or it waited
abbrev pub Synced : Token → Step → Place → Reply → Token → Type 0
Synced old step there answer new =
    (is_blocked answer ≡ false)
    × (Begun old there (entry old.number step answer) new ⊎ Waited old step there answer new)

-- a read or write that has no answer did not begin, or waits for good
abbrev pub NotSynced : Token → Step → Place → SharedError → Token → Type 0
NotSynced old step there error new =
    NotBegun old there error new
    ⊎ ((middle : Token) × Begun old there (entry old.number step (replies.Code codes.Blocked)) middle
    × GivesUp middle error new)

-- the answer of `sync`, by the handle that the step reads or writes: of any other step as of a call
abbrev pub CallsBy : Option Place → Token → Step → Reply → Token → Type 0
CallsBy None old step answer new = Called old (entry old.number step answer) new
CallsBy (Some there) old step answer new = Synced old step there answer new

-- the same, of a step
abbrev pub CallsStep : Token → Step → Reply → Token → Type 0
CallsStep old step answer new = CallsBy (operated step) old step answer new

-- an error of `sync`, by the handle that the step reads or writes
abbrev pub FailsBy : Option Place → Token → Step → SharedError → Token → Type 0
FailsBy None old step error new = Failed old step error new
FailsBy (Some there) old step error new = NotSynced old step there error new

-- the same, of a step
abbrev pub FailsStep : Token → Step → SharedError → Token → Type 0
FailsStep old step error new = FailsBy (operated step) old step error new

-- SYNC_MOVE

-- the answer of `sync_move`, by whether the step is a move: of a move as of a call after some idle turns, and
-- never that the end has an operation; of any other step as of a call
abbrev pub MovesBy : Bool → Token → Step → Reply → Token → Type 0
MovesBy false old step reply new = Called old (entry old.number step reply) new
MovesBy true old step reply new =
    (is_refused_busy reply ≡ false)
    × ((middle : Token) × Later old middle × Called middle (entry old.number step reply) new)

-- the same, of a step
abbrev pub Moves : Token → Step → Reply → Token → Type 0
Moves old step reply new = MovesBy (is_move step) old step reply new

-- an error of `sync_move`, by whether the step is a move
abbrev pub FailsToMoveBy : Bool → Token → Step → SharedError → Token → Type 0
FailsToMoveBy false old step error new = Failed old step error new
FailsToMoveBy true old step error new = (middle : Token) × Later old middle × Failed middle step error new

-- the same, of a step
abbrev pub FailsToMove : Token → Step → SharedError → Token → Type 0
FailsToMove old step error new = FailsToMoveBy (is_move step) old step error new

-- SEATS

-- what a split keeps of the seat that is split
abbrev pub Keeps : Token → Token → Type 0
Keeps old new =
    (new.seen ≡ old.seen) × (new.mine ≡ old.mine) × (new.ended ≡ old.ended) × (new.found ≡ old.found)
    × (new.left ≡ old.left) × (new.waiting ≡ old.waiting) × (new.turns ≡ old.turns)
    × (new.top_ticket ≡ old.top_ticket) × (old.top_seats ≤ new.top_seats)

-- a seat in which another ended: it has seen the longer history, of which the other is a front, and keeps the
-- other's entries as they are. That is one history, in which both seats' entries stand
abbrev pub Joined : Token → Token → Token → Type 0
Joined old from new =
    (new.seen ≡ longer old.seen from.seen) × IsPrefix old.seen new.seen × IsPrefix from.seen new.seen
    × IsOneHistory new × (new.mine ≡ old.mine)
    × (new.ended ≡ old.ended ++ (from.ended ++ (from.number, from.mine) ∷ []))
    × (new.found ≡ old.found) × (new.left ≡ old.left) × (new.waiting ≡ old.waiting)
    × (new.turns ≡ old.turns) × (new.top_ticket ≡ max old.top_ticket from.top_ticket)
    × (new.top_seats ≡ max old.top_seats from.top_seats)

-- what a store ends with: a legal history, of which the seat has seen a front, with its entries and those of
-- the seats that ended in it, and the store that the machine comes to by it; and a ticket was left
abbrev pub StoreEnds : Token → Closed → Type 0
StoreEnds seat closed =
    IsLegal seat.limits closed.history.items × (closed.store ≡ state_after seat.limits closed.history.items)
    × IsPrefix seat.seen closed.history.items × (calls_by seat.number closed.history.items ≡ seat.mine)
    × AreCallsIn seat.ended closed.history.items × (seat.top_ticket < last_number)
