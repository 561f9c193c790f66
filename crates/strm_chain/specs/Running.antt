-- What a run of a chain is: the steps that make it, and the turns of a schedule. Ours.
use Rattle.std.specs.Prelude.{◌≡◌, ℕ, zero, suc, ◌+◌, List, [], ◌∷◌, ◌++◌, replicate}
use Rattle.strm_machine.specs.declared.steps.Step.{Step}
use Rattle.strm_machine.specs.declared.steps.Step.TheVariants as steps
use Rattle.strm_machine.specs.declared.replies.Reply.{Reply}
use Rattle.strm_machine.specs.Plays.{play, Ends}
use Rattle.strm_laws.specs.Starts.{run_start}
use Rattle.strm_chain.specs.declared.workers.ChainTurn.{ChainTurn}
use Rattle.strm_chain.specs.Playing.{ChainPlay, bytes_type}
use Rattle.strm_chain.specs.Turning.{Turns}

-- so many guests of 8,192 bytes
abbrev pub guests_made : ℕ → List Step
guests_made count = replicate count (steps.Guest 8192)

-- the first so many streams: stream i joins guest i to guest i + 1
unfoldable pub streams_made : ℕ → List Step
streams_made zero = []
streams_made (suc i) = streams_made i ++ steps.Between i (i + 1) bytes_type ∷ []

-- the steps that make a chain of n stages: its guests, with the source and the sink, and its streams
abbrev pub making_of : ℕ → List Step
making_of n = guests_made (n + 2) ++ streams_made (n + 1)

-- the turns of a schedule, in order, whatever each of them answered
abbrev pub AreTurns : ℕ → ℕ → List ℕ → ChainPlay → ChainPlay → Type 0
AreTurns sink chunk [] before after = after ≡ before
AreTurns sink chunk (who ∷ more) before after =
    (turn : ChainTurn) × (mid : ChainPlay) × Turns sink chunk who turn before mid
    × AreTurns sink chunk more mid after

-- some schedule's
abbrev pub AreSomeTurns : ℕ → ℕ → ChainPlay → ChainPlay → Type 0
AreSomeTurns sink chunk before after = (whos : List ℕ) × AreTurns sink chunk whos before after

-- a run of a chain of n stages: the steps that make it, and the turns of a schedule behind them, with the
-- replies of the machine's play
pub record IsChainRun (n chunk : ℕ) (whos : List ℕ)
    (steps : List Step) (told : List Reply) : Type 0 where
  -- the chain before the first turn, and behind the last one
  pub first : ChainPlay
  pub last : ChainPlay
  pub made : first.steps ≡ making_of n
  pub plays : play [] run_start first.steps ≡ Ends first.replies first.state
  pub turns : AreTurns (n + 1) chunk whos first last
  pub steps_are : steps ≡ last.steps
  pub replies_are : told ≡ last.replies
  pub plays_all : play [] run_start steps ≡ Ends told last.state
