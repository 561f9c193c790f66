-- What one turn of a guest did, as steps: nothing, an event that answers none, the opening or the end of a
-- read or a write, or the drop of its write end. Ours.
use Rattle.std.specs.Prelude.{◌≡◌, ℕ, ◌+◌, ◌≤◌, ◌⊎◌, Bool, true, false, List, ◌++◌, length, take, drop, Option, Some, None}
use Rattle.strm_codes.specs.Codes.{count_of_code}
use Rattle.strm_codes.specs.declared.codes.ReturnCode.{ReturnCode}
use Rattle.strm_codes.specs.declared.codes.ReturnCode.TheVariants.{Completed, Dropped, Blocked}
use Rattle.strm_events.specs.Reports.{is_dropped}
use Rattle.strm_machine.specs.declared.steps.Step.TheVariants as steps
use Rattle.strm_machine.specs.declared.replies.Reply.TheVariants as replies
use Rattle.strm_chain.specs.declared.workers.Worker.{Worker}
use Rattle.strm_chain.specs.declared.workers.Doing.{Doing}
use Rattle.strm_chain.specs.declared.workers.Doing.TheVariants.{Nothing, Reading, Writing, Ended}
use Rattle.strm_chain.specs.declared.workers.ChainTurn.{ChainTurn}
use Rattle.strm_chain.specs.declared.workers.ChainTurn.TheVariants.{Moved, Idle}
use Rattle.strm_chain.specs.Stages.{work_left, work_done}
use Rattle.strm_chain.specs.Playing.{ChainPlay, Adds, bytes_type}
use Rattle.strm_chain.specs.Turning.{IsChunkCount}

-- a guest has an operation of this handle
abbrev pub IsAt : Worker → ℕ → Type 0
IsAt w handle =
    ((w.doing ≡ Reading) × (w.read ≡ Some handle)) ⊎ ((w.doing ≡ Writing) × (w.write ≡ Some handle))

-- guest g has an operation, and the one step of its turn is the event of that, which answers none
pub record HearsNone (g : ℕ) (w : Worker) (play play' : ChainPlay) : Type 0 where
  pub handle : ℕ
  pub has : IsAt w handle
  pub hears : Adds play play' (steps.Event g handle) (replies.Event None)

-- guest g reads, to byte 0 of its memory, and is answered this code
pub record Reads (g chunk : ℕ) (w : Worker) (play play' : ChainPlay)
    (code : ReturnCode) : Type 0 where
  pub handle : ℕ
  pub rests : w.doing ≡ Nothing
  pub unclosed : w.closed ≡ false
  pub some : 1 ≤ chunk
  pub has : w.read ≡ Some handle
  pub adds : Adds play play' (steps.Read g bytes_type handle 0 chunk) (replies.Code code)

-- guest g hears of its read
pub record HearsRead (g : ℕ) (w : Worker) (play play' : ChainPlay)
    (code : ReturnCode) : Type 0 where
  pub handle : ℕ
  pub waits : w.doing ≡ Reading
  pub has : w.read ≡ Some handle
  pub adds : Adds play play' (steps.Event g handle) (replies.Event (Some code))

-- what a guest is at once its read is over: the sink ends where it was told that there is no more
abbrev pub after_read : Option ℕ → Bool → Doing
after_read None true = Ended
after_read write dropped = Nothing

-- a code that ends a read: of so many items, perhaps the last ones
pub data EndsRead (code : ReturnCode) : Type 0 where
  WithMore : code ≡ Completed (count_of_code code) → EndsRead code
  WithLast : code ≡ Dropped (count_of_code code) → EndsRead code

-- a read of guest g is over with this code: the bytes that it moved are dumped, and its stage takes them
pub record TakesIn (g : ℕ) (w : Worker) (code : ReturnCode) (play : ChainPlay)
    (w' : Worker) (play' : ChainPlay) : Type 0 where
  pub bytes : List ℕ
  pub ends : EndsRead code
  pub dumps : Adds play play' (steps.Dump g 0 (count_of_code code)) (replies.Bytes bytes)
  pub is : w' ≡ record w {
    work = work_left w.work bytes;
    made = w.made ++ work_done w.work bytes;
    doing = after_read w.write (is_dropped code);
    closed = is_dropped code;
  }

-- guest g puts the next bytes that it has to write from byte 64 of its memory on, and is to write them
pub record Pokes (g chunk : ℕ) (w : Worker) (bytes : List ℕ) (play play' : ChainPlay) : Type 0 where
  pub rests : w.doing ≡ Nothing
  pub some : IsChunkCount chunk (length bytes)
  pub next : bytes ≡ take chunk (drop w.sent w.made)
  pub adds : Adds play play' (steps.Poke g 64 bytes) replies.Done

-- it writes them, and is answered this code
pub record WritesPiece (g chunk : ℕ) (w : Worker) (play play' : ChainPlay)
    (code : ReturnCode) : Type 0 where
  pub handle : ℕ
  pub has : w.write ≡ Some handle
  pub bytes : List ℕ
  pub mid : ChainPlay
  pub pokes : Pokes g chunk w bytes play mid
  pub adds : Adds mid play' (steps.Write g bytes_type handle 64 (length bytes)) (replies.Code code)

-- guest g hears of its write
pub record HearsWrite (g : ℕ) (w : Worker) (play play' : ChainPlay)
    (code : ReturnCode) : Type 0 where
  pub handle : ℕ
  pub waits : w.doing ≡ Writing
  pub has : w.write ≡ Some handle
  pub adds : Adds play play' (steps.Event g handle) (replies.Event (Some code))

-- a write is over with this code: so many bytes more were handed over
pub record HandsOver (w : Worker) (code : ReturnCode) (w' : Worker) : Type 0 where
  pub count : ℕ
  pub ends : code ≡ Completed count
  pub is : w' ≡ record w { sent = w.sent + count; doing = Nothing }

-- guest g has nothing more to read, and has handed over all: it drops its write end
pub record Drops (g : ℕ) (w : Worker) (play : ChainPlay)
    (w' : Worker) (play' : ChainPlay) : Type 0 where
  pub handle : ℕ
  pub rests : w.doing ≡ Nothing
  pub closed : w.closed ≡ true
  pub all : length w.made ≤ w.sent
  pub has : w.write ≡ Some handle
  pub adds : Adds play play' (steps.DropWrite g bytes_type handle) replies.Done
  pub is : w' ≡ record w { doing = Ended }

-- one turn of guest g, and what it was
pub data Turned (g chunk : ℕ) (w : Worker) (play : ChainPlay) (turn : ChainTurn)
    (w' : Worker) (play' : ChainPlay) : Type 0 where
  Rests : turn ≡ Idle → w.doing ≡ Ended → w' ≡ w → play' ≡ play →
      Turned g chunk w play turn w' play'
  Waits : turn ≡ Idle → w' ≡ w → HearsNone g w play play' → Turned g chunk w play turn w' play'
  ReadOpens : turn ≡ Moved → Reads g chunk w play play' Blocked →
      w' ≡ record w { doing = Reading } → Turned g chunk w play turn w' play'
  ReadServes : (mid : ChainPlay) (code : ReturnCode) → turn ≡ Moved →
      Reads g chunk w play mid code → TakesIn g w code mid w' play' →
      Turned g chunk w play turn w' play'
  ReadSettles : (mid : ChainPlay) (code : ReturnCode) → turn ≡ Moved →
      HearsRead g w play mid code → TakesIn g w code mid w' play' →
      Turned g chunk w play turn w' play'
  WriteOpens : turn ≡ Moved → WritesPiece g chunk w play play' Blocked →
      w' ≡ record w { doing = Writing } → Turned g chunk w play turn w' play'
  WriteServes : (code : ReturnCode) → turn ≡ Moved → WritesPiece g chunk w play play' code →
      HandsOver w code w' → Turned g chunk w play turn w' play'
  WriteSettles : (code : ReturnCode) → turn ≡ Moved → HearsWrite g w play play' code →
      HandsOver w code w' → Turned g chunk w play turn w' play'
  Ends : turn ≡ Moved → Drops g w play w' play' → Turned g chunk w play turn w' play'
