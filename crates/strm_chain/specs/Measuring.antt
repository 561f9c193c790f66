-- What a chain has still to do: a number that each turn lowers which is not idle. Ours.
use Rattle.std.specs.Prelude.{◌≡◌, ℕ, zero, suc, ◌+◌, ◌-◌, ◌*◌, ◌<◌, Bool, true, false, List, [], ◌∷◌, length, if◌then◌else◌, Some, None}
use Rattle.strm_machine.specs.Endings.{report_on}
use Rattle.strm_machine.specs.Moments.{moved_of, received}
use Rattle.strm_machine.specs.State.{State, stream_at}
use Rattle.strm_machine.specs.declared.streams.Side.TheVariants.{Writing as AWrite, Reading as ARead}
use Rattle.strm_chain.specs.declared.stages.Stage.{Stage}
use Rattle.strm_chain.specs.declared.workers.ChainTurn.{ChainTurn}
use Rattle.strm_chain.specs.declared.workers.ChainTurn.TheVariants.{Moved, Idle}
use Rattle.strm_chain.specs.declared.workers.Worker.{Worker}
use Rattle.strm_chain.specs.declared.workers.Doing.{Doing}
use Rattle.strm_chain.specs.declared.workers.Doing.TheVariants.{Nothing, Reading, Writing, Ended}
use Rattle.strm_chain.specs.Faults.{is_twice}
use Rattle.strm_chain.specs.Keeping.{worker_at, stages_of, input_of}

-- the most bytes that stages make of so many
abbrev pub most_of : List Stage → ℕ → ℕ
most_of [] count = count
most_of (stage ∷ more) count = most_of more (if is_twice stage then 2 * count else count)

-- the bytes that a stream received and its guest has taken in: but those of a read that it was not told of
abbrev pub taken_in_bytes : State → ℕ → ℕ
taken_in_bytes state s = received s state - moved_of (stream_at state s).reader.operation

-- the turns to the end of what a guest is at
abbrev pub rank : Doing → ℕ
rank Ended = 0
rank Reading = 1
rank Writing = 1
rank Nothing = 2

-- and until it is told that there is no more
abbrev pub unclosed : Bool → ℕ
unclosed true = 0
unclosed false = 2

-- what guest g has still to do, where no stream carries more bytes than `most`
abbrev pub to_do_of : ℕ → State → ℕ → Worker → ℕ
to_do_of most state g w =
    2 * (most - taken_in_bytes state (g - 1)) + 2 * (most - w.sent)
    + unclosed w.closed + rank w.doing

-- what the first so many guests have
unfoldable pub to_do_to : ℕ → State → List Worker → ℕ → ℕ
to_do_to most state workers zero = 0
to_do_to most state workers (suc g) =
    to_do_to most state workers g + to_do_of most state g (worker_at workers g)

-- the most bytes that a stream of a chain carries
abbrev pub most_in : List Worker → ℕ
most_in workers = most_of (stages_of workers) (length (input_of workers))

-- what a chain has still to do
abbrev pub to_do : State → List Worker → ℕ
to_do state workers = to_do_to (most_in workers) state workers (length workers)

-- a guest has ended, or its operation has no report
pub data IsStuck (g : ℕ) (w : Worker) (state : State) : Type 0 where
  AtEnd : w.doing ≡ Ended → IsStuck g w state
  InRead : (handle : ℕ) → w.doing ≡ Reading → w.read ≡ Some handle →
      report_on ARead (stream_at state (g - 1)) ≡ None → IsStuck g w state
  InWrite : (handle : ℕ) → w.doing ≡ Writing → w.write ≡ Some handle →
      report_on AWrite (stream_at state g) ≡ None → IsStuck g w state

-- a turn of guest g left less to do, or all as it was, and then the guest was stuck
pub data LowersMeasure (g : ℕ) (turn : ChainTurn) (old : State) (workers : List Worker)
    (new : State) (workers' : List Worker) : Type 0 where
  Less : turn ≡ Moved → to_do new workers' < to_do old workers →
      LowersMeasure g turn old workers new workers'
  Same : turn ≡ Idle → new ≡ old → ((k : ℕ) → worker_at workers' k ≡ worker_at workers k) →
      IsStuck g (worker_at workers g) old → LowersMeasure g turn old workers new workers'
