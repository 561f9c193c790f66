-- The making of a chain: first its guests, then the streams from each to the next. Ours.
use Rattle.std.specs.Prelude.{◌≡◌, ℕ, ◌+◌, ◌-◌, ◌*◌, ◌<◌, ◌≤◌, true, List, [], length, map, drop, take, ◌++◌, Some, None}
use Rattle.strm_handles.specs.Handles.{Handles}
use Rattle.strm_error_contexts.specs.Contexts.{len as contexts_there}
use Rattle.strm_machine.specs.State.{State, guest_in, memory_in, stream_at, bytes_in_use, handles_in_use, sets_in_use}
use Rattle.strm_laws.specs.Starts.{run_start}
use Rattle.strm_machine.specs.Making.{made_stream}
use Rattle.strm_machine.specs.declared.replies.Pair.{Pair}
use Rattle.strm_chain.specs.declared.stages.Stage.{Stage}
use Rattle.strm_chain.specs.declared.stages.Stage.TheVariants.{Copy}
use Rattle.strm_chain.specs.declared.workers.Worker.{Worker}
use Rattle.strm_chain.specs.declared.workers.Doing.TheVariants.{Nothing}
use Rattle.strm_chain.specs.Reporting.{last_report}
use Rattle.strm_chain.specs.Running.{guests_made, streams_made}
use Rattle.strm_chain.specs.Playing.{ChainPlay, bytes_type}
use Rattle.strm_chain.specs.Keeping.{new_worker, worker_at}

-- a table that has given no number back, and so many at most
pub record IsShortTable (n : ℕ) (handles : Handles) : Type 0 where
  pub freed : handles.freed ≡ []
  pub entries : length handles.entries ≤ n

-- what so many guests and streams take of what a chain's store limits: each guest 8,192 bytes, each stream
-- two handles
pub record TakesLittle (guests streams : ℕ) (state : State) : Type 0 where
  pub limits : state.limits ≡ run_start.limits
  pub bytes : bytes_in_use state ≡ 8192 * guests
  pub handles : handles_in_use state ≤ 2 * streams
  pub tables : (g : ℕ) → IsShortTable (2 * streams) (guest_in state.guests g).handles
  pub sets : sets_in_use state ≡ 0
  pub contexts : contexts_there state.contexts ≡ 0

-- so many guests of 8,192 bytes and so many streams were made, and nothing else was done
pub record AreMade (guests streams : ℕ) (play : ChainPlay) : Type 0 where
  pub guests_are : length play.state.guests ≡ guests
  pub streams_are : length play.state.streams ≡ streams
  pub room : (g : ℕ) → g < guests → length (memory_in play.state.guests g) ≡ 8192
  pub little : TakesLittle guests streams play.state
  pub steps_are : play.steps ≡ guests_made guests ++ streams_made streams
  pub even : length play.steps ≡ length play.replies
  -- nothing was reported to any guest
  pub quiet : (g : ℕ) → last_report g None play.steps play.replies ≡ None

-- stream s was made, with these handles for its two ends
abbrev pub IsNew : ChainPlay → ℕ → ℕ → ℕ → Type 0
IsNew play s write read = stream_at play.state s ≡ made_stream bytes_type s write (s + 1) read

-- stream s is made, the last one so far: these are the handles of its ends, and all others are as before
pub record MakesPair (s : ℕ) (play : ChainPlay) (pair : Pair) (play' : ChainPlay) : Type 0 where
  pub made : (guests : ℕ) → AreMade guests s play → AreMade guests (s + 1) play'
  pub new : length play.state.streams ≡ s → IsNew play' s pair.write pair.read
  pub others : (k : ℕ) → k < length play.state.streams →
      stream_at play'.state k ≡ stream_at play.state k

-- guest s was given the write end of stream s, and nothing of that stream has moved
pub record HasWrite (s : ℕ) (w : Worker) (play : ChainPlay) : Type 0 where
  pub write : ℕ
  pub read : ℕ
  pub has : w.write ≡ Some write
  pub new : IsNew play s write read
  pub rests : (w.sent ≡ 0) × (w.doing ≡ Nothing)

-- guest s + 1 was given the read end of stream s
pub record HasRead (s : ℕ) (w : Worker) (play : ChainPlay) : Type 0 where
  pub write : ℕ
  pub read : ℕ
  pub has : w.read ≡ Some read
  pub new : IsNew play s write read
  pub fresh : w ≡ record (new_worker w.work.stage) { read = w.read; write = w.write }

-- the source, which has the input to write
abbrev pub source_of : List ℕ → ℕ → Worker
source_of input write = record (new_worker Copy) { write = Some write; made = input; closed = true }

-- the first i + 1 guests of a chain, joined, and the read end that waits for the next one
pub record AreJoined (input : List ℕ) (i read : ℕ) (stages : List Stage)
    (play : ChainPlay) (workers : List Worker) : Type 0 where
  pub many : length workers ≡ i + 1
  pub stages_are : map (λ w. w.work.stage) (drop 1 workers) ≡ take i stages
  pub source : (write : ℕ) × (worker_at workers 0 ≡ source_of input write)
  pub writes : (s : ℕ) → s < i + 1 → HasWrite s (worker_at workers s) play
  pub reads : (s : ℕ) → s < i → HasRead s (worker_at workers (s + 1)) play
  pub next : (write : ℕ) × IsNew play i write read

-- a chain whose guests and streams were made, in which no guest has had a turn
pub record IsReady (stages : List Stage) (input : List ℕ)
    (play : ChainPlay) (workers : List Worker) : Type 0 where
  pub many : length workers ≡ length stages + 2
  pub stages_are : map (λ w. w.work.stage) (take (length workers - 2) (drop 1 workers)) ≡ stages
  pub made : AreMade (length workers) (length stages + 1) play
  pub source : (write : ℕ) × (worker_at workers 0 ≡ source_of input write)
  pub writes : (s : ℕ) → s < length stages + 1 → HasWrite s (worker_at workers s) play
  pub reads : (s : ℕ) → s < length stages + 1 → HasRead s (worker_at workers (s + 1)) play
  pub sink : (read : ℕ)
      × (worker_at workers (length workers - 1) ≡ record (new_worker Copy) { read = Some read })
