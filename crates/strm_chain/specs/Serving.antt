-- What the program writes, and why. Ours.
use Rattle.std.specs.Prelude.{◌≡◌, ◌≤◌, ◌<◌, ◌+◌, ◌⊎◌, ℕ, true, List, length, codes, Option, IfSome}
use Rattle.strm_codes.specs.Counters.{Rose}
use Rattle.strm_machine.specs.declared.steps.Step.{Step}
use Rattle.strm_machine.specs.declared.replies.Reply.{Reply}
use Rattle.strm_input_output.specs.Serving.{IsFaultless, IsOr, IsOfSource, IsOfWords}
use Rattle.strm_lines.specs.Grammar.{IsBetween}
use Rattle.strm_chain.specs.declared.stages.Stage.{Stage}
use Rattle.strm_chain.specs.Stages.{composed}
use Rattle.strm_chain.specs.Flowing.{Flows}
use Rattle.strm_chain.specs.Reporting.{is_told}
use Rattle.strm_chain.specs.Running.{IsChainRun}
use Rattle.strm_chain.specs.Asking.{Asks, IsChainAsked}

-- how the program is called
abbrev pub chain_usage_text : List ℕ
chain_usage_text = codes "usage: chain CHUNK STAGE..\n"

-- an input over the limit
abbrev pub IsChainTooLong : List ℕ → Type 0
IsChainTooLong input = 65536 < length input

-- what these stages make of an input, and what flowed through a run of turns to the sink
pub record IsPipedBy (chunk : ℕ) (stages : List Stage) (input output : List ℕ) : Type 0 where
  pub whos : List ℕ
  pub steps : List Step
  pub replies : List Reply
  pub runs : IsChainRun (length stages) chunk whos steps replies
  -- to its end: the sink was told that there is no more
  pub told : is_told (length stages + 1) steps replies ≡ true
  pub flows : Flows stages input output steps
  pub output_is : output ≡ composed stages input

-- the same, of the stages and in the pieces that the words ask for
abbrev pub IsPiped : List (List ℕ) → List ℕ → List ℕ → Type 0
IsPiped words input output =
    (chunk : ℕ) (stages : List Stage) → Asks words chunk stages →
    IsPipedBy chunk stages input output

-- the status of an input that was read and is within the limit
abbrev pub IsOfStages : ℕ → Type 0
IsOfStages status = status ≡ 0

-- a status but 5 and 9, and what is written with it, by why they come: from the program's words, the bytes
-- that the source had left before and has left after, where these are told, and the source's faults before
-- and after
pub record IsChainOutput (words : List (List ℕ)) (left rest : Option (List ℕ))
    (before after status : ℕ) (text : List ℕ) : Type 0 where
  pub by_words : IsOfWords (IsChainAsked words) chain_usage_text
      (IsOfSource IsOfStages IsChainTooLong left rest before after) status text
  pub done : status ≡ 0 → IfSome left (λ input. IsPiped words input text)

-- the statuses of the program
abbrev pub IsChainStatus : ℕ → Type 0
IsChainStatus status = (status ≤ 1) ⊎ ((IsBetween 3 5 status) ⊎ (status ≡ 9))

-- which status comes, but for a fault of source or sink and for running out of memory, by causes that a caller
-- sees: an input within the limit is passed through; one over it is told, and so is how to call the program
pub record IsChainComplete (words : List (List ℕ)) (left : Option (List ℕ))
    (source_before source_after sink_before sink_after status : ℕ) : Type 0 where
  pub complete : (input : List ℕ) → IsChainAsked words →
      IsFaultless left input source_before source_after sink_before sink_after →
      ¬ IsChainTooLong input → IsOr 0 status
  pub too_long : (input : List ℕ) → IsChainAsked words →
      IsFaultless left input source_before source_after sink_before sink_after →
      IsChainTooLong input → IsOr 3 status
  pub usage : ¬ IsChainAsked words → ¬ Rose sink_before sink_after → IsOr 1 status
