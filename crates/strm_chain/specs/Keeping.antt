-- What a chain keeps from turn to turn: how its guests stand to the store. Ours.
use Rattle.std.specs.Prelude.{◌≡◌, ◌≢◌, ℕ, ◌+◌, ◌-◌, ◌≤◌, ◌<◌, ℤ, Bool, true, false, List, [], length, map, take, drop, slice_index_or, IsSome, Option, Some, None}
use Rattle.strm_machine.specs.Plays.{play, Ends}
use Rattle.strm_laws.specs.Starts.{run_start}
use Rattle.strm_machine.specs.State.{State, memory_in, stream_at, is_gone}
use Rattle.strm_machine.specs.Soundness.{type_of}
use Rattle.strm_codes.specs.declared.codes.StreamResult.TheVariants.{Completed}
use Rattle.strm_machine.specs.declared.streams.Operation.{Operation}
use Rattle.strm_machine.specs.declared.streams.Owner.TheVariants.{Held}
use Rattle.strm_machine.specs.declared.streams.Stream.{Stream}
use Rattle.strm_chain.specs.declared.stages.Stage.{Stage}
use Rattle.strm_chain.specs.declared.stages.Stage.TheVariants.{Copy}
use Rattle.strm_chain.specs.declared.workers.Worker.{Worker}
use Rattle.strm_chain.specs.declared.workers.Doing.TheVariants.{Nothing, Reading, Writing, Ended}
use Rattle.strm_chain.specs.Stages.{work_begun}
use Rattle.strm_chain.specs.Playing.{ChainPlay, IsChainPlayed, bytes_type}
use Rattle.strm_chain.specs.Flowing.{got_on}
use Rattle.strm_chain.specs.Linking.{Sends, Takes}
use Rattle.strm_chain.specs.Reporting.{is_told}
use Rattle.strm_chain.specs.Running.{making_of}

-- what a chain has come to: what was played, its guests, and whether memory had run out
pub record ChainState : Type 0 where
  pub play : ChainPlay
  pub workers : List Worker
  pub chunk : ℕ
  pub failed : Bool

-- a guest that was just made, for a stage
abbrev pub new_worker : Stage → Worker
new_worker stage = record {
  read = None;
  write = None;
  work = work_begun stage;
  made = [];
  sent = 0;
  doing = Nothing;
  closed = false;
}

-- the guest of a number; past the last one, one that was just made
abbrev pub worker_at : List Worker → ℕ → Worker
worker_at workers g = slice_index_or workers g (new_worker Copy)

-- the stages of these guests; the source and the sink copy
abbrev pub stages_of : List Worker → List Stage
stages_of workers = map (λ w. w.work.stage) (take (length workers - 2) (drop 1 workers))

-- what the source has to write
abbrev pub input_of : List Worker → List ℕ
input_of workers = (worker_at workers 0).made

-- the last of these guests
abbrev pub sink_of : List Worker → Worker
sink_of workers = worker_at workers (length workers - 1)

-- what guests receive
abbrev pub Items : Type 0
Items = List (Option (List ℤ))

-- guest g writes on stream g, which has received this: it has handed over the front of what it put out,
-- and while it has not ended the end is its own; once it has, the end is gone, all was handed over and there
-- is nothing more to read
pub record WritesOn (g : ℕ) (w : Worker) (state : State) (received : Items) : Type 0 where
  pub handle : ℕ
  pub has : w.write ≡ Some handle
  pub owner : w.doing ≢ Ended → (stream_at state g).writer.owner ≡ Held g handle
  pub sends : Sends g 64 w.sent w.made (memory_in state.guests g)
      (stream_at state g).writer.operation received
  pub idle : w.doing ≢ Writing → (stream_at state g).writer.operation ≡ None
  pub busy : w.doing ≡ Writing → IsSome (stream_at state g).writer.operation
  pub gone : w.doing ≡ Ended → is_gone (stream_at state g).writer.owner ≡ true
  -- it was never told that nobody reads
  pub untold : (stream_at state g).writer.told ≡ false
  pub over : w.doing ≡ Ended → (w.closed ≡ true) × (w.sent ≡ length w.made)

-- an operation comes out with its items: it is open until it has met, has items left as long as it is open, and
-- has moved some once it has met
pub record HasItems (operation : Operation) : Type 0 where
  pub outcome : operation.outcome ≡ Completed
  pub unmet : operation.met ≡ false → operation.is_open ≡ true
  pub left : operation.is_open ≡ true → 1 ≤ operation.left
  pub moved : operation.met ≡ true → 1 ≤ operation.moved

-- the same, where there is one
abbrev pub IsPlain : Option Operation → Type 0
IsPlain None = Unit {0}
IsPlain (Some operation) = HasItems operation

-- the same of both ends of a stream
abbrev pub ArePlain : Stream → Type 0
ArePlain stream = IsPlain stream.writer.operation × IsPlain stream.reader.operation

-- guest s + 1 reads from stream s, which has received this: it has put out what its stage makes of what it
-- has taken, and where there is nothing more to read, the other end is gone
pub record ReadsFrom (s : ℕ) (w : Worker) (state : State) (received : Items) : Type 0 where
  pub handle : ℕ
  pub has : w.read ≡ Some handle
  pub owner : (stream_at state s).reader.owner ≡ Held (s + 1) handle
  pub takes : Takes (s + 1) 0 (work_begun w.work.stage) w.work w.made
      (memory_in state.guests (s + 1)) (stream_at state s).reader.operation received
  pub idle : w.doing ≢ Reading → (stream_at state s).reader.operation ≡ None
  pub busy : w.doing ≡ Reading → IsSome (stream_at state s).reader.operation
  pub unclosed : w.doing ≡ Reading → w.closed ≡ false
  -- it was told that nobody writes where there is nothing more to read
  pub untold : w.closed ≡ false → (stream_at state s).reader.told ≡ false
  pub plain : ArePlain (stream_at state s)
  pub gone : w.closed ≡ true → is_gone (stream_at state s).writer.owner ≡ true

-- stream s is of bytes, and joins guest s to the next one
pub record Joins (s : ℕ) (writer reader : Worker) (play : ChainPlay) : Type 0 where
  pub typed : type_of (stream_at play.state s) ≡ bytes_type
  pub writes : WritesOn s writer play.state (got_on play.steps s)
  pub reads : ReadsFrom s reader play.state (got_on play.steps s)

-- the last guest copies, and ends once it was told that there is no more
pub record IsSink (w : Worker) : Type 0 where
  pub write : w.write ≡ None
  pub copies : w.work.stage ≡ Copy
  pub ends : w.doing ≡ Ended → w.closed ≡ true
  pub ended : w.closed ≡ true → w.doing ≡ Ended
  pub unwriting : w.doing ≢ Writing

-- the guests of a chain, joined by streams from each to the next; the source reads nothing, and the sink
-- copies and writes nothing
pub record IsJoined (play : ChainPlay) (workers : List Worker) : Type 0 where
  pub guests : length workers ≤ length play.state.guests
  pub streams : length play.state.streams + 1 ≡ length workers
  pub room : (g : ℕ) → g < length workers → length (memory_in play.state.guests g) ≡ 8192
  pub joins : (s : ℕ) → s + 1 < length workers →
      Joins s (worker_at workers s) (worker_at workers (s + 1)) play
  pub source : ((worker_at workers 0).read ≡ None) × ((worker_at workers 0).closed ≡ true)
  pub unreading : (worker_at workers 0).doing ≢ Reading
  pub sink : IsSink (sink_of workers)

-- guest g of such a chain
pub record IsGuest (g : ℕ) (w : Worker) (play : ChainPlay) : Type 0 where
  pub workers : List Worker
  pub joined : IsJoined play workers
  pub there : g < length workers
  pub is : worker_at workers g ≡ w
  pub played : IsChainPlayed play

-- and the sink knows what it was told
pub record IsGoing (play : ChainPlay) (workers : List Worker) : Type 0 where
  pub joined : IsJoined play workers
  pub told : is_told (length workers - 1) play.steps play.replies ≡ (sink_of workers).closed

-- the same, but where memory had run out
abbrev pub IsGoingUnless : Bool → ChainPlay → List Worker → Type 0
IsGoingUnless true play workers = Unit {0}
IsGoingUnless false play workers = IsGoing play workers

-- what holds of a chain between two turns
pub record IsChain (chain : ChainState) : Type 0 where
  pub chunk : (16 ≤ chain.chunk) × (chain.chunk ≤ 64)
  pub some : (2 ≤ length chain.workers) × (length chain.workers ≤ 10)
  pub going : IsGoingUnless chain.failed chain.play chain.workers

-- a chain of these stages, this input and this chunk, in which no guest has had a turn
pub record BeginsChain (stages : List Stage) (input : List ℕ)
    (chunk : ℕ) (chain : ChainState) : Type 0 where
  pub many : length chain.workers ≡ length stages + 2
  pub stages_are : stages_of chain.workers ≡ stages
  pub input_is : input_of chain.workers ≡ input
  pub chunk_is : chain.chunk ≡ chunk
  pub steps_are : chain.play.steps ≡ making_of (length stages)
  pub plays : play [] run_start chain.play.steps ≡ Ends chain.play.replies chain.play.state
  pub runs : chain.failed ≡ false

-- from turn to turn, a chain has as many guests of the same stages, the same input and the same chunk
pub record ChainGoesOn (old new : ChainState) : Type 0 where
  pub many : length new.workers ≡ length old.workers
  pub stages : stages_of new.workers ≡ stages_of old.workers
  pub input : input_of new.workers ≡ input_of old.workers
  pub chunk : new.chunk ≡ old.chunk
